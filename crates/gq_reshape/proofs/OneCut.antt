-- An ask has one cut, over one reading and one type system.
use Rattle.std.proofs.Common.{◌≡◌, ℕ, List, Option, Some, slice_get, find, option_and_then, sym, ap, subst, ◌∙◌}
use Rattle.std.specs.Option.{option_map}
use Rattle.std.specs.Str.{bytes_eq}
use Rattle.gq_text.specs.declared.place.Span.{Span}
use Rattle.gq_lex.specs.Tokens.{Lexeme}
use Rattle.gq_tree.specs.Plain.{NameOf, DirectiveOf, spread, inline}
use Rattle.gq_tree.specs.Readings.{ParsedOf}
use Rattle.gq_project.specs.declared.document.Doc.{Doc}
use Rattle.gq_types.specs.Entries.{Text, EntryOf}
use Rattle.gq_document.specs.Definitions.{FragmentOf, fragments_of}
use Rattle.gq_document.specs.Last.{find_last}
use Rattle.gq_index.specs.Occurrences.{executables}
use Rattle.gq_select.specs.Meant.{StandingOf, is_spread, is_inline, meant, document_sets}
use Rattle.gq_select.specs.Runs.{RunOf}
use Rattle.gq_select.specs.Touched.{Touches, is_touched}
use Rattle.gq_reshape.specs.Asks.{RangeAsk, IsAskedOf, tree_at}
use Rattle.gq_reshape.specs.Extract.{run_at, sets_asked, Extraction, extract_at, extract_cut}
use Rattle.gq_reshape.specs.Inline.{Inlining, inline_at, inline_cut, is_only_spread}
use Rattle.gq_reshape.specs.Naming.{extracted_name}
use Rattle.gq_reshape.specs.Remove.{Removal, remove_at, remove_cut}
use Rattle.gq_reshape.proofs.ExtractOffers.{OneReading, same_span, least_once}

-- one document is asked of
asked_once : (documents : List Doc) (key : List ℕ) (f g : ℕ) (d e : Doc) → IsAskedOf documents key f d → IsAskedOf documents key g e → (f ≡ g) × (d ≡ e)
asked_once documents key f g d e a b =
    let number : Some f ≡ Some g = sym a.is_at ∙ b.is_at in
    let same : f ≡ g = cc in
    let document : Some d ≡ Some e = sym a.stands ∙ ap (slice_get documents) same ∙ b.stands in
    let one : d ≡ e = cc in
    (same, one)

-- a range touches one place of a text
touched_once : OneReading → (text : List ℕ) (range p q : Span) → Touches text range p → Touches text range q → p ≡ q
touched_once one_reading text range p q a b =
    let same : a.tokens ≡ b.tokens = one_reading text a.tokens b.tokens a.reads b.reads in
    let first : Some p.start ≡ Some q.start = sym a.first ∙ ap (λ (ts : List Lexeme). option_map (λ t. t.span.start) (find (is_touched range) ts)) same ∙ b.first in
    let last : Some p.end ≡ Some q.end = sym a.last ∙ ap (λ (ts : List Lexeme). option_map (λ t. t.span.end) (find_last (is_touched range) ts)) same ∙ b.last in
    let starts : p.start ≡ q.start = cc in
    let ends : p.end ≡ q.end = cc in
    same_span p q starts ends

module _ (documents : List Doc) (es : List EntryOf) (rs : List ParsedOf) (ask : RangeAsk) where
  pub one_extraction : OneReading → (a b : Extraction documents es rs ask) → extract_cut a ≡ extract_cut b
  one_extraction one_reading a b =
      let t = a.touched in
      let u = b.touched in
      let asked = asked_once documents ask.key t.file u.file t.document u.document t.asked_of u.asked_of in
      let T : Doc → Type 0 = λ d. Touches d.text ask.range u.place in
      let place : t.place ≡ u.place = touched_once one_reading t.document.text ask.range t.place u.place t.touches (subst T (sym asked.1) u.touches) in
      let found : Some (record { parent = Some a.parent; run = a.run }) ≡ Some (record { parent = Some b.parent; run = b.run }) =
      sym a.is_run ∙ ap (λ (p : Span). run_at p (sets_asked es rs t)) place ∙ ap (λ (f : ℕ). run_at u.place (document_sets es (tree_at rs f))) asked.0 ∙ b.is_run in
      let on_found : Some a.parent ≡ Some b.parent = ap (λ (o : Option RunOf). option_and_then (λ r. r.parent) o) found in
      let run_found : Some a.run ≡ Some b.run = ap (λ (o : Option RunOf). option_map (λ r. r.run) o) found in
      let on : a.parent ≡ b.parent = cc in
      let run : a.run ≡ b.run = cc in
      ap (λ (f : ℕ). extract_at f t.document.text t.place (extracted_name a.number) a.parent a.run) asked.0
      ∙ ap (λ (d : Doc). extract_at u.file d.text t.place (extracted_name a.number) a.parent a.run) asked.1
      ∙ ap (λ (p : Span). extract_at u.file u.document.text p (extracted_name a.number) a.parent a.run) place
      ∙ ap (λ (n : ℕ). extract_at u.file u.document.text u.place (extracted_name n) a.parent a.run) (least_once (executables rs) a.number b.number a.is_least b.is_least)
      ∙ ap (λ (p : Text). extract_at u.file u.document.text u.place (extracted_name b.number) p a.run) on
      ∙ ap (extract_at u.file u.document.text u.place (extracted_name b.number) b.parent) run

  pub one_inlining : (a b : Inlining documents es rs ask) → inline_cut a ≡ inline_cut b
  one_inlining a b =
      let asked = asked_once documents ask.key a.file b.file a.document b.document a.asked_of b.asked_of in
      let meant_is : Some a.selected ≡ Some b.selected = sym a.is_meant ∙ ap (λ (f : ℕ). meant is_spread ask.range (document_sets es (tree_at rs f))) asked.0 ∙ b.is_meant in
      let selected : a.selected ≡ b.selected = cc in
      let head : spread a.name a.directives a.place ≡ spread b.name b.directives b.place = sym a.is_spread ∙ ap (λ (x : StandingOf). x.selection.label) selected ∙ b.is_spread in
      let name : a.name ≡ b.name = cc in
      let directives : a.directives ≡ b.directives = cc in
      let place : a.place ≡ b.place = cc in
      let found : Some a.definition ≡ Some b.definition = sym a.is_definition ∙ ap (λ (n : NameOf Span). find (λ f. bytes_eq f.name.text n.text) (fragments_of rs)) name ∙ b.is_definition in
      let definition : a.definition ≡ b.definition = cc in
      let home_is : Some a.home ≡ Some b.home = sym a.is_home ∙ ap (λ (g : FragmentOf). slice_get documents g.file) definition ∙ b.is_home in
      let home : a.home ≡ b.home = cc in
      ap (λ (f : ℕ). inline_at f a.document.text a.directives a.place a.definition a.home.text (is_only_spread rs a.name.text)) asked.0
      ∙ ap (λ (d : Doc). inline_at b.file d.text a.directives a.place a.definition a.home.text (is_only_spread rs a.name.text)) asked.1
      ∙ ap (λ (ds : List (DirectiveOf Span)). inline_at b.file b.document.text ds a.place a.definition a.home.text (is_only_spread rs a.name.text)) directives
      ∙ ap (λ (p : Span). inline_at b.file b.document.text b.directives p a.definition a.home.text (is_only_spread rs a.name.text)) place
      ∙ ap (λ (g : FragmentOf). inline_at b.file b.document.text b.directives b.place g a.home.text (is_only_spread rs a.name.text)) definition
      ∙ ap (λ (d : Doc). inline_at b.file b.document.text b.directives b.place b.definition d.text (is_only_spread rs a.name.text)) home
      ∙ ap (λ (n : NameOf Span). inline_at b.file b.document.text b.directives b.place b.definition b.home.text (is_only_spread rs n.text)) name

  pub one_removal : (a b : Removal documents es rs ask) → remove_cut a ≡ remove_cut b
  one_removal a b =
      let asked = asked_once documents ask.key a.file b.file a.document b.document a.asked_of b.asked_of in
      let meant_is : Some a.selected ≡ Some b.selected = sym a.is_meant ∙ ap (λ (f : ℕ). meant is_inline ask.range (document_sets es (tree_at rs f))) asked.0 ∙ b.is_meant in
      let selected : a.selected ≡ b.selected = cc in
      let head : inline a.on a.directives a.braces a.place ≡ inline b.on b.directives b.braces b.place = sym a.is_inline ∙ ap (λ (x : StandingOf). x.selection.label) selected ∙ b.is_inline in
      let braces : a.braces ≡ b.braces = cc in
      let place : a.place ≡ b.place = cc in
      ap (λ (f : ℕ). remove_at f a.document.text a.place a.braces) asked.0
      ∙ ap (λ (d : Doc). remove_at b.file d.text a.place a.braces) asked.1
      ∙ ap (λ (p : Span). remove_at b.file b.document.text p a.braces) place
      ∙ ap (remove_at b.file b.document.text b.place) braces
