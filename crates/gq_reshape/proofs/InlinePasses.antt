-- An inline reads as the rewritten trees and leaves a valid project, where no edited text passes a limit.
use Rattle.std.proofs.Common.{◌≡◌, inl, inr, ℕ, zero, suc, ◌+◌, Bool, true, false, ◌&&◌, ◌||◌, nat_eq, nat_lt, List, [], ◌∷◌, ◌++◌, Option, Some}
use Rattle.std.proofs.Common.{None, Contains, map, slice_get, refl, sym, ap, ◌∙◌, subst, ⊎_elim, arith, append-nil}
use Rattle.std.specs.Prelude.{if◌then◌else◌, not, codes}
use Rattle.std.specs.List.{AllByRecursion, filter, list_any}
use Rattle.std.specs.Option.{option_map_or}
use Rattle.std.specs.Str.{bytes_eq}
use Rattle.std.proofs.lemmas.Bool.Decides.{nat_tests}
use Rattle.std.proofs.lemmas.Grind.{not_there}
use Rattle.std.proofs.lemmas.List.Elements.{Contains-append_cases}
use Rattle.gq_text.specs.declared.place.Span.{Span}
use Rattle.gq_text.specs.declared.replacement.Replacement.{Replacement}
use Rattle.gq_text.specs.Replaced.{replaced}
use Rattle.gq_tree.specs.Forest.{none, more, labels}
use Rattle.gq_tree.specs.Plain.{NameOf, DirectiveOf, Head, Sels, Def, spread, operation, fragment, type_system, no_place, place_def, erase_all}
use Rattle.gq_tree.specs.Readings.{ParsedOf, definitions_read}
use Rattle.gq_project.specs.declared.document.Doc.{Doc}
use Rattle.gq_project.specs.Documents.{IsInOrder}
use Rattle.gq_edit.specs.declared.edit.DocumentEdit.{DocumentEdit}
use Rattle.gq_edit.specs.Edits.{document_of}
use Rattle.gq_parse.specs.Derives.{Derives}
use Rattle.gq_parse.specs.Limits.{PassesLimitAt}
use Rattle.gq_parse.specs.Parsed.{AreParsed}
use Rattle.gq_parse.proofs.OneReading.{OneTree}
use Rattle.gq_types.specs.Entries.{Text, EntryOf}
use Rattle.gq_types.proofs.Gathered.{nothing_in, first, later, cases_cons, to_any, to_filter}
use Rattle.gq_document.specs.Definitions.{FragmentOf, fragments_of}
use Rattle.gq_schema.specs.SchemaOf.{IsTypeSystemOf}
use Rattle.gq_meaning.specs.Thin.{IsIn}
use Rattle.gq_meaning.proofs.TextLemmas.{same_text, text_itself}
use Rattle.gq_renamed.specs.Projects as projects
use Rattle.gq_renamed.specs.Projects.{AreTrees}
use Rattle.gq_renamed.proofs.EditedParts.{Part}
use Rattle.gq_rules.specs.Project.{type_system_of, executable_of}
use Rattle.gq_rules.specs.Validity.{IsValid}
use Rattle.gq_rewritten.specs.Rewrites.{DefinitionPlace, Rewrite, executable_place, is_kept, rewritten_document, same_place, with_inlined, with_set}
use Rattle.gq_rewritten.specs.Executables as rewritten
use Rattle.gq_laws.specs.Cutting.Inlined.{inlined, gone as gone_from, put_in_order, ReadsWithin, InlinedTextsRead, TextsReadWithoutFragment, InlinedTextsReadWithoutFragment}
use Rattle.gq_laws.specs.Cutting.Standing.{set_in, HasSelection}
use Rattle.gq_laws.specs.Cutting.Texts.{inlined_text}
use Rattle.gq_laws.proofs.Renaming.Promises.{nothing_demanded}
use Rattle.gq_laws.proofs.Renaming.SameTypes.{IsExecutable, AreOfOneKind}
use Rattle.gq_laws.proofs.Renaming.ValidityLemmas.{no_rule}
use Rattle.gq_laws.proofs.RenamedValid.Reading.{HaveTrees, trees_read as trees_are}
use Rattle.gq_laws.specs.Rewriting.Edits.{SpreadAt, CanInline, IsSpreadOther}
use Rattle.gq_laws.specs.Rewriting.KnownBefore.{Each}
use Rattle.gq_laws.specs.Rewriting.Places.{AreInPlace}
use Rattle.gq_laws.specs.Rewriting.Statics.{static_of, roots_in}
use Rattle.gq_laws.specs.Rewriting.Unchanged.{RestatedProjectsKeepResponses}
use Rattle.gq_laws.proofs.Rewriting.Executables.{StandsIn, contains, is_in, fragment_def, fragment_stands}
use Rattle.gq_laws.proofs.Rewriting.Goes.{same_definition}
use Rattle.gq_laws.proofs.Rewriting.Located.{same_start}
use Rattle.gq_laws.proofs.Rewriting.Projects.{can_inline, project_in_place, sound}
use Rattle.gq_laws.proofs.Rewriting.ValidityLemmas.{NoneIsBoth}
use Rattle.gq_laws.specs.RewrittenValid.Inlined.{InlinesKeepAllRules}
use Rattle.gq_laws.specs.RewrittenValid.InlinedSpread.{IsCondition, IsItsFragment, IsSpreadElsewhere}
use Rattle.gq_rename.specs.Rename.{IsTooLarge}
use Rattle.gq_rename.specs.declared.refusal.Refusal.TheVariants.{DirectiveInWay, TooLarge}
use Rattle.gq_reshape.specs.Asks.{RangeAsk}
use Rattle.gq_reshape.specs.Cuts.{Cut, edits_of, PassesCheck}
use Rattle.gq_reshape.specs.Inline.{Inlining, inline_at, inline_cut, comes_first, in_order as put_first, is_only_spread, is_in_way, has_directive, IsDirectiveInWay}
use Rattle.gq_reshape.specs.Passing.{AnswersPass, InlinesPass}
use Rattle.gq_reshape.specs.Placed.{edits_from, replacements_in}
use Rattle.gq_reshape.specs.Reshape.{IsInlineAnswer, PassesLimits}
use Rattle.gq_reshape.specs.declared.placed.PlacedReplacement.{PlacedReplacement}
use Rattle.gq_reshape.specs.Helping.Limits.{PassesSomeLimit}
use Rattle.gq_reshape.specs.Helping.Making.{SomeExecutable}
use Rattle.gq_reshape.specs.Helping.Rereading.{is_edited}
use Rattle.gq_reshape.proofs.Changed.{types_are}
use Rattle.gq_reshape.proofs.Inlined.{asked, selects, stands, named, last_one, inlined_keeping}
use Rattle.gq_reshape.proofs.LastSpreads.{spread_there}
use Rattle.gq_reshape.proofs.Leaves.{ReadsAt, reads_as_before, each_reads, cut_reads, leaves_valid}
use Rattle.gq_reshape.proofs.Making.{kept}
use Rattle.gq_reshape.proofs.OtherSpreads.{another_stands}
use Rattle.gq_reshape.proofs.PlacedLemmas.{parts_from, documents_are, edits_are, edit_of_part, its_document}
use Rattle.gq_reshape.proofs.Promised.{Promised, promised}
use Rattle.gq_reshape.proofs.Quiet.{skipped, inline_quiet}
use Rattle.gq_reshape.proofs.Removed.{neither}
use Rattle.gq_reshape.proofs.RemovePasses.{ends_stand, all_kept}
use Rattle.gq_reshape.proofs.RunStands.{same_number}
use Rattle.gq_reshape.proofs.SameEntries.{trees_read, all_executable}
use Rattle.gq_reshape.proofs.TextParts.{no_other}

-- ---- directives

not_in_way : (d : DirectiveOf Span) → is_in_way d ≡ false → IsCondition d
not_in_way d e = by (bytes_eq d.name.text (codes "skip")) (bytes_eq d.name.text (codes "include")) refl refl e
  where
    by : (a b : Bool) → bytes_eq d.name.text (codes "skip") ≡ a → bytes_eq d.name.text (codes "include") ≡ b → not (a || b) ≡ false → IsCondition d
    by true b p q r = inl (same_text d.name.text (codes "skip") p)
    by false true p q r = inr (same_text d.name.text (codes "include") q)
    by false false p q r = absurd (cc)

conditions : (ds : List (DirectiveOf Span)) → list_any is_in_way ds ≡ false → (d : DirectiveOf Span) → Contains ds d → IsCondition d
conditions ds e d c = by (is_in_way d) refl
  where
    by : (b : Bool) → is_in_way d ≡ b → IsCondition d
    by false t = not_in_way d t
    by true t = absurd (let bad : false ≡ true = sym e ∙ to_any is_in_way ds d c t in cc)

no_directives : (ds : List (DirectiveOf Span)) → has_directive ds ≡ false → ds ≡ []
no_directives [] e = refl
no_directives (d ∷ ds) e = absurd (cc)

not_true : (b : Bool) → (b ≡ true → ⊥) → b ≡ false
not_true false h = refl
not_true true h = absurd (h refl)

-- ---- documents and their trees

executables_too : (ds : List (Def Span)) → AllByRecursion IsExecutable ds → AllByRecursion rewritten.IsExecutable ds
executables_too [] all = tt
executables_too (operation kind name variables directives set braces place ∷ ds) all = (tt, executables_too ds all.1)
executables_too (fragment name on directives set braces place ∷ ds) all = (tt, executables_too ds all.1)
executables_too (type_system definition ∷ ds) all = absurd all.0

kind_at : (rs : List ParsedOf) (k : ℕ) (t : List (Def Span)) → AllByRecursion (λ r. AreOfOneKind (definitions_read r)) rs → slice_get (trees_read rs) k ≡ Some t → AreOfOneKind t
kind_at [] k t all e = absurd (cc)
kind_at (r ∷ rs) zero t all e = let same : definitions_read r ≡ t = cc in subst AreOfOneKind same all.0
kind_at (r ∷ rs) (suc k) t all e = kind_at rs k t all.1 e

derives_at : {documents : List Doc} {trees : List (List (Def Span))} → AreTrees documents trees → (k : ℕ) (d : Doc) (t : List (Def Span)) → slice_get documents k ≡ Some d →
    slice_get trees k ≡ Some t → Derives d.text t
derives_at projects.none k d t e f = absurd (cc)
derives_at (projects.more {document = document} {tree = tree} p ps) zero d t e f =
    let same : document ≡ d = cc in
    let read : tree ≡ t = cc in
    let D : Doc → Type 0 = λ x. Derives x.text t in
    subst D same (subst (Derives document.text) read p)
derives_at (projects.more p ps) (suc k) d t e f = derives_at ps k d t e f

-- a definition of another document goes
elsewhere_kept : (p : DefinitionPlace) (k : ℕ) (ds : List (Def Span)) → nat_eq p.file k ≡ false → filter (is_kept (Some p) k) ds ≡ ds
elsewhere_kept p k [] e = refl
elsewhere_kept p k (d ∷ ds) e =
    ap (λ (b : Bool). if not (b && option_map_or (same_place p.place) (executable_place d) false) then d ∷ filter (is_kept (Some p) k) ds else filter (is_kept (Some p) k) ds) e
    ∙ ap (λ (xs : List (Def Span)). d ∷ xs) (elsewhere_kept p k ds e)

changed_there : (r : Rewrite) (k : ℕ) (ds : List (Def Span)) → nat_eq r.file k ≡ true → r.added ≡ [] → rewritten_document r k ds ≡ map (with_set r.change) (filter (is_kept r.dropped k) ds)
changed_there r k ds e nothing =
    ap (λ (b : Bool). if b then map (with_set r.change) (filter (is_kept r.dropped k) ds) ++ r.added else map (place_def no_place) (filter (is_kept r.dropped k) ds)) e
    ∙ ap (λ (xs : List (Def (Unit {0}))). map (with_set r.change) (filter (is_kept r.dropped k) ds) ++ xs) nothing
    ∙ append-nil (map (with_set r.change) (filter (is_kept r.dropped k) ds))

bare_there : (r : Rewrite) (k : ℕ) (ds : List (Def Span)) → nat_eq r.file k ≡ false → rewritten_document r k ds ≡ map (place_def no_place) (filter (is_kept r.dropped k) ds)
bare_there r k ds e = ap (λ (b : Bool). if b then map (with_set r.change) (filter (is_kept r.dropped k) ds) ++ r.added else map (place_def no_place) (filter (is_kept r.dropped k) ds)) e

-- ---- a spread does not stand in its own fragment

each_label : (P : Head Span → Type 0) (set : Sels Span) → Each P set → (h : Head Span) → Contains (labels set) h → P h
each_label P none all h c = nothing_in h c
each_label P (more l b r) all h c =
    ⊎_elim (λ same. subst P same all.0) (λ rest. ⊎_elim (λ d. each_label P b all.1 h d) (λ d. each_label P r all.2 h d) (Contains-append_cases (labels b) (labels r) h rest))
    (cases_cons l h (labels b ++ labels r) c)

second_true : (b c : Bool) → not (b && c) ≡ false → c ≡ true
second_true true true e = refl
second_true true false e = absurd (cc)
second_true false c e = absurd (cc)

module _ (k : ℕ) (f : FragmentOf) (t : List (Def Span)) (in_place : AreInPlace 0 t) (there : IsIn (fragment_def f) t) (other : Each (IsSpreadOther (Some f.name.text)) f.set) (name : NameOf Span)
    (directives : List (DirectiveOf Span)) (place : Span) (of : f.name.text ≡ name.text) where
  abbrev dropped_here : Option DefinitionPlace
  dropped_here = Some (record { file = k; place = f.place })

  not_in_what_goes : (d : Def Span) → IsIn d t → Contains (labels (set_in d)) (spread name directives place) → is_kept dropped_here k d ≡ false → ⊥
  not_in_what_goes (operation kind own variables ds set braces whole) m c e =
      let s = same_start f.place whole (second_true (nat_eq k k) (same_place f.place whole) e) in
      let same = same_definition (roots_in []) 0 t in_place (fragment_def f) (operation kind own variables ds set braces whole) there m f.place whole refl refl s in
      absurd (cc)
  not_in_what_goes (fragment own on ds set braces whole) m c e =
      let s = same_start f.place whole (second_true (nat_eq k k) (same_place f.place whole) e) in
      let same = same_definition (roots_in []) 0 t in_place (fragment_def f) (fragment own on ds set braces whole) there m f.place whole refl refl s in
      let sets : set ≡ f.set = cc in
      each_label (IsSpreadOther (Some f.name.text)) f.set other (spread name directives place) (subst (λ (ss : Sels Span). Contains (labels ss) (spread name directives place)) sets c) (ap Some of)
  not_in_what_goes (type_system definition) m c e = nothing_in (spread name directives place) c

  spread_stays : HasSelection t (spread name directives place) → HasSelection (filter (is_kept dropped_here k) t) (spread name directives place)
  spread_stays has = record {
    definition = has.definition;
    stands = to_filter (is_kept dropped_here k) t has.definition has.stands (by (is_kept dropped_here k has.definition) refl);
    among = has.among;
  }
    where
      by : (b : Bool) → is_kept dropped_here k has.definition ≡ b → is_kept dropped_here k has.definition ≡ true
      by true e = e
      by false e = absurd (not_in_what_goes has.definition (is_in has.definition t has.stands) has.among e)

-- ---- the replacements of one document

only_first : (a b : PlacedReplacement) (k : ℕ) → nat_eq a.file k ≡ true → nat_eq b.file k ≡ false → replacements_in (put_first a b) k ≡ a.replacement ∷ []
only_first a b k p q = by (comes_first b a)
  where
    by : (c : Bool) → replacements_in (if c then b ∷ a ∷ [] else a ∷ b ∷ []) k ≡ a.replacement ∷ []
    by true = skipped b (a ∷ []) k q ∙ kept a [] k p
    by false = kept a (b ∷ []) k p ∙ ap (λ (xs : List Replacement). a.replacement ∷ xs) (skipped b [] k q)

only_second : (a b : PlacedReplacement) (k : ℕ) → nat_eq a.file k ≡ false → nat_eq b.file k ≡ true → replacements_in (put_first a b) k ≡ b.replacement ∷ []
only_second a b k p q = by (comes_first b a)
  where
    by : (c : Bool) → replacements_in (if c then b ∷ a ∷ [] else a ∷ b ∷ []) k ≡ b.replacement ∷ []
    by true = kept b (a ∷ []) k q ∙ ap (λ (xs : List Replacement). b.replacement ∷ xs) (skipped a [] k p)
    by false = skipped a (b ∷ []) k p ∙ kept b [] k q

by_places : (m n x y : ℕ) → m ≡ n → (nat_lt m n || (nat_eq m n && nat_lt x y)) ≡ nat_lt x y
by_places m n x y e =
    let low : nat_lt m n ≡ false = grind (arith, nat_tests, e) in
    let same : nat_eq m n ≡ true = grind (arith, nat_tests, e) in
    ap (λ (b : Bool). b || (nat_eq m n && nat_lt x y)) low ∙ ap (λ (b : Bool). b && nat_lt x y) same

both_there : (a b : PlacedReplacement) (k : ℕ) → nat_eq a.file k ≡ true → nat_eq b.file k ≡ true →
    replacements_in (put_first a b) k ≡ (if nat_lt b.replacement.span.start a.replacement.span.start then b.replacement ∷ a.replacement ∷ [] else a.replacement ∷ b.replacement ∷ [])
both_there a b k p q =
    by (comes_first b a)
    ∙ ap (λ (c : Bool). if c then b.replacement ∷ a.replacement ∷ [] else a.replacement ∷ b.replacement ∷ [])
    (by_places b.file a.file b.replacement.span.start a.replacement.span.start (same_number b.file k q ∙ sym (same_number a.file k p)))
  where
    by : (c : Bool) → replacements_in (if c then b ∷ a ∷ [] else a ∷ b ∷ []) k ≡ (if c then b.replacement ∷ a.replacement ∷ [] else a.replacement ∷ b.replacement ∷ [])
    by true = kept b (a ∷ []) k q ∙ ap (λ (xs : List Replacement). b.replacement ∷ xs) (kept a [] k p)
    by false = kept a (b ∷ []) k p ∙ ap (λ (xs : List Replacement). a.replacement ∷ xs) (kept b [] k q)

some_of : (c : Bool) (a b : Replacement) → (x : Replacement) × (xs : List Replacement) × ((if c then b ∷ a ∷ [] else a ∷ b ∷ []) ≡ x ∷ xs)
some_of true a b = (b, a ∷ [], refl)
some_of false a b = (a, b ∷ [], refl)

-- ---- where no limit is passed

abbrev part : List PlacedReplacement → ℕ → Doc → Part
part placed k d = record { document = d; replacements = replacements_in placed k }

part_at : (placed : List PlacedReplacement) (from : ℕ) (documents : List Doc) (k : ℕ) (d : Doc) → slice_get documents k ≡ Some d →
    Contains (parts_from placed from documents) (part placed (from + k) d)
part_at placed from [] k d e = absurd (cc)
part_at placed from (x ∷ documents) zero d e =
    let same : x ≡ d = cc in
    let here : from ≡ from + 0 = omega arith in
    first (part placed from x) (part placed (from + 0) d) (parts_from placed (suc from) documents) (ap (part placed from) same ∙ ap (λ (n : ℕ). part placed n d) here)
part_at placed from (x ∷ documents) (suc k) d e =
    let there : suc from + k ≡ from + suc k = omega arith in
    later (part placed from x) (part placed (from + suc k) d) (parts_from placed (suc from) documents)
    (subst (λ (n : ℕ). Contains (parts_from placed (suc from) documents) (part placed n d)) there (part_at placed (suc from) documents k d e))

limit_passed : (placed : List PlacedReplacement) (documents : List Doc) → IsInOrder documents → (k : ℕ) (d : Doc) → slice_get documents k ≡ Some d → (r : Replacement) (rs : List Replacement) →
    replacements_in placed k ≡ r ∷ rs →
    PassesSomeLimit (replaced (replacements_in placed k) d.text) → IsTooLarge documents (edits_from placed 0 documents)
limit_passed placed documents in_order k d at r rs some passes =
    let number : 0 + k ≡ k = omega arith in
    let there : Contains (parts_from placed 0 documents) (part placed k d) = subst (λ (n : ℕ). Contains (parts_from placed 0 documents) (part placed n d)) number (part_at placed 0 documents k d at) in
    let edit : DocumentEdit = record { key = d.key; version = d.version; replacements = replacements_in placed k } in
    let E : List DocumentEdit → Type 0 = λ es. Contains es edit in
    let D : List Doc → Type 0 = λ ds. document_of ds edit ≡ Some d in
    record {
      edit = edit;
      stands = subst E (edits_are placed 0 documents) (edit_of_part (parts_from placed 0 documents) (part placed k d) r rs there some);
      document = d;
      of = subst D (documents_are placed 0 documents) (its_document (parts_from placed 0 documents) (part placed k d) (subst IsInOrder (sym (documents_are placed 0 documents)) in_order) there);
      passes = inr passes;
    }

reads_with : (r : Rewrite) (placed : List PlacedReplacement) (documents : List Doc) → IsInOrder documents → (IsTooLarge documents (edits_from placed 0 documents) → ⊥) →
    (k : ℕ) (d : Doc) (t : List (Def Span)) → slice_get documents k ≡ Some d →
    (x : Replacement) (xs rs : List Replacement) → rs ≡ x ∷ xs → replacements_in placed k ≡ rs → (new : List (Def (Unit {0}))) → ReadsWithin d.text rs new → new ≡ rewritten_document r k t →
    ReadsAt r placed k d t
reads_with r placed documents in_order small k d t at x xs rs some is new reads same =
    let w = reads (λ n p. small (limit_passed placed documents in_order k d at x xs (is ∙ some) (n, subst (λ (zs : List Replacement). PassesLimitAt (replaced zs d.text) n) (sym is) p))) in
    record { after = w.tree; derives = subst (λ (zs : List Replacement). Derives (replaced zs d.text) w.tree) (sym is) w.derives; rewritten = w.is ∙ same }

-- the name of what goes
old_name : (b : Bool) (n text : Text) → (if b then Some n else None) ≡ Some text → text ≡ n
old_name true n text e = cc
old_name false n text e = absurd (cc)

nothing_goes : (b : Bool) (n : Text) → (if b then Some n else None) ≡ None → b ≡ false
nothing_goes true n e = absurd (cc)
nothing_goes false n e = refl

module _ (one_tree : OneTree) (apart : NoneIsBoth) (stay : RestatedProjectsKeepResponses) (have_trees : (documents : List Doc) → IsValid documents → HaveTrees documents) (texts : InlinedTextsRead)
    (without : TextsReadWithoutFragment) (both : InlinedTextsReadWithoutFragment) (rules : InlinesKeepAllRules) where
  module _ (documents : List Doc) (in_order : IsInOrder documents) (valid : ∥ IsValid documents ∥₁) (rs : List ParsedOf) (are : AreParsed documents rs) (ask : RangeAsk) where
    trees_stand : AreTrees documents (trees_read rs)
    trees_stand = trees_are are (λ missing. not_there valid (λ v. missing (have_trees documents v)))

    abbrev es : List EntryOf
    es = type_system_of rs

    module _ (promise : Promised es rs) (i : Inlining documents es rs ask) (free : IsDirectiveInWay documents es rs ask → ⊥) where
      abbrev only : Bool
      only = is_only_spread rs i.name.text

      abbrev head : Head Span
      head = spread i.name i.directives i.place

      abbrev cut_by : Bool → Cut
      cut_by b = inline_at i.file i.document.text i.directives i.place i.definition i.home.text b

      abbrev opened : PlacedReplacement
      opened = record { file = i.file; replacement = record { span = i.place; text = inlined_text i.document.text i.home.text i.definition.on.text i.directives i.definition.braces } }

      abbrev gone : PlacedReplacement
      gone = record { file = i.definition.file; replacement = record { span = i.definition.place; text = [] } }

      abbrev Small : Bool → Type 0
      Small b = IsTooLarge documents (edits_of (cut_by b) documents) → ⊥

      defined : Contains (fragments_of rs) i.definition × (bytes_eq i.definition.name.text i.name.text ≡ true)
      defined = stands documents ask rs are es promise i

      called_so : i.definition.name.text ≡ i.name.text
      called_so = named documents ask rs are es promise i

      quiet_directives : (list_any is_in_way i.directives ≡ false) × (has_directive i.definition.directives ≡ false)
      quiet_directives =
          neither (list_any is_in_way i.directives) (has_directive i.definition.directives)
          (not_true (list_any is_in_way i.directives || has_directive i.definition.directives) (λ e. free (record { inlining = i; in_way = e })))

      bare : i.definition.directives ≡ []
      bare = no_directives i.definition.directives quiet_directives.1

      abbrev spread_here : SpreadAt
      spread_here = record {
        file = i.file;
        place = i.place;
        on = i.definition.on.text;
        set = i.definition.set;
        dropped = if only then Some (record { file = i.definition.file; place = i.definition.place }) else None;
      }

      can : (c : CanInline (static_of es) (roots_in es) (trees_read rs) (if only then Some i.definition.name.text else None) spread_here) × (c.name ≡ i.name) × (c.directives ≡ i.directives)
      can =
          can_inline documents rs are es promise.rooted promise.known promise.defined promise.ranked.0 promise.ranked.1 i.definition defined.0 (promise.unique i.definition defined.0)
          (asked documents ask rs are es promise i) (selects documents ask rs are es promise i) i.name i.directives
          i.place i.is_spread called_so only (λ alone t c. last_one documents ask rs are es promise i alone t c t.selection.label refl)

      spread_stands : HasSelection can.0.document.tree head
      spread_stands =
          let name : can.0.name ≡ i.name = can.1 in
          let directives : can.0.directives ≡ i.directives = can.2 in
          let same : spread can.0.name can.0.directives i.place ≡ head =
          ap (λ (n : NameOf Span). spread n can.0.directives i.place) name ∙ ap (λ (ds : List (DirectiveOf Span)). spread i.name ds i.place) directives in
          subst (HasSelection can.0.document.tree) same (ends_stand can.0.ends)

      home : StandsIn (trees_read rs) i.definition.file (fragment_def i.definition)
      home = fragment_stands rs i.definition defined.0

      home_has : Contains home.tree (fragment i.definition.name i.definition.on [] i.definition.set i.definition.braces i.definition.place)
      home_has =
          subst (λ (ds : List (DirectiveOf Span)). Contains home.tree (fragment i.definition.name i.definition.on ds i.definition.set i.definition.braces i.definition.place)) bare
          (contains (fragment_def i.definition) home.tree home.stands)

      home_derives : Derives i.home.text home.tree
      home_derives = derives_at trees_stand i.definition.file i.home home.tree i.is_home home.is_tree

      -- the document of that number, and its tree
      module _ (k : ℕ) (d : Doc) (t : List (Def Span)) (at : slice_get documents k ≡ Some d) (tree_at : slice_get (trees_read rs) k ≡ Some t) (derives : Derives d.text t) where
        document_is : nat_eq i.file k ≡ true → i.document ≡ d
        document_is p = let e : Some i.document ≡ Some d = sym i.asked_of.stands ∙ ap (slice_get documents) (same_number i.file k p) ∙ at in cc

        home_is : nat_eq i.definition.file k ≡ true → i.home ≡ d
        home_is q = let e : Some i.home ≡ Some d = sym i.is_home ∙ ap (slice_get documents) (same_number i.definition.file k q) ∙ at in cc

        home_tree_is : nat_eq i.definition.file k ≡ true → home.tree ≡ t
        home_tree_is q = let e : Some home.tree ≡ Some t = sym home.is_tree ∙ ap (slice_get (trees_read rs)) (same_number i.definition.file k q) ∙ tree_at in cc

        has_spread : nat_eq i.file k ≡ true → HasSelection t head
        has_spread p =
            let e : Some can.0.document.tree ≡ Some t = sym can.0.document.is_tree ∙ ap (slice_get (trees_read rs)) (same_number i.file k p) ∙ tree_at in
            let same : can.0.document.tree ≡ t = cc in
            subst (λ (x : List (Def Span)). HasSelection x head) same spread_stands

        has_fragment : nat_eq i.definition.file k ≡ true → IsIn (fragment_def i.definition) t
        has_fragment q = subst (IsIn (fragment_def i.definition)) (home_tree_is q) home.stands

        executables : nat_eq i.definition.file k ≡ true → AllByRecursion rewritten.IsExecutable t
        executables q =
            let some : SomeExecutable t = record { definition = fragment_def i.definition; stands = has_fragment q; is = tt } in
            executables_too t (all_executable t some (kind_at rs k t promise.one_kind tree_at))

        -- the spread alone
        opened_reads : (b : Bool) → Small b → nat_eq i.file k ≡ true → replacements_in (cut_by b).replacements k ≡ opened.replacement ∷ [] → filter (is_kept (cut_by b).rewrite.dropped k) t ≡ t →
            ReadsAt (cut_by b).rewrite (cut_by b).replacements k d t
        opened_reads b small p is all =
            let put : Replacement = inlined d.text i.home.text i.place i.directives i.definition.on.text i.definition.braces in
            let text : opened.replacement ∷ [] ≡ put ∷ [] = ap (λ (x : Doc). inlined x.text i.home.text i.place i.directives i.definition.on.text i.definition.braces ∷ []) (document_is p) in
            let change : List (Def Span) → List (Def (Unit {0})) = λ xs. map (with_set (with_inlined i.place i.definition.on.text (erase_all i.definition.set))) xs in
            reads_with (cut_by b).rewrite (cut_by b).replacements documents in_order small k d t at put [] (put ∷ []) refl (is ∙ text) (change t)
            (texts d.text i.home.text t home.tree i.name i.directives i.place i.definition.name i.definition.on i.definition.set i.definition.braces i.definition.place derives home_derives
            (has_spread p) home_has)
            (ap change (sym all) ∙ sym (changed_there (cut_by b).rewrite k t p refl))

        -- the fragment alone
        gone_reads : Small true → nat_eq i.file k ≡ false → nat_eq i.definition.file k ≡ true → ReadsAt (cut_by true).rewrite (cut_by true).replacements k d t
        gone_reads small p q =
            let left : ℕ → List (Def (Unit {0})) = λ n. map (place_def no_place) (filter (is_kept (Some (record { file = n; place = i.definition.place })) k) t) in
            reads_with (cut_by true).rewrite (cut_by true).replacements documents in_order small k d t at (gone_from i.definition.place) [] (gone_from i.definition.place ∷ []) refl
            (only_second opened gone k p q) (left k)
            (without d.text t i.definition.name i.definition.on i.definition.directives i.definition.set i.definition.braces i.definition.place k derives (executables q)
            (contains (fragment_def i.definition) t (has_fragment q)))
            (ap left (sym (same_number i.definition.file k q)) ∙ sym (bare_there (cut_by true).rewrite k t p))

        -- the spread and the fragment in one document
        both_read : Small true → nat_eq i.file k ≡ true → nat_eq i.definition.file k ≡ true → ReadsAt (cut_by true).rewrite (cut_by true).replacements k d t
        both_read small p q =
            let left : ℕ → List (Def (Unit {0})) =
            λ n. map (with_set (with_inlined i.place i.definition.on.text (erase_all i.definition.set))) (filter (is_kept (Some (record { file = n; place = i.definition.place })) k) t) in
            let put : Replacement = inlined d.text d.text i.place i.directives i.definition.on.text i.definition.braces in
            let second : Bool = nat_lt i.definition.place.start i.place.start in
            let ordered : Doc → Doc → List Replacement = λ x y. put_in_order i.place i.definition.place (inlined x.text y.text i.place i.directives i.definition.on.text i.definition.braces) in
            let text : ordered i.document i.home ≡ ordered d d = ap (λ (x : Doc). ordered x i.home) (document_is p) ∙ ap (ordered d) (home_is q) in
            let some = some_of second put (gone_from i.definition.place) in
            let in_place : AreInPlace 0 t = project_in_place are k t tree_at in
            let other : Each (IsSpreadOther (Some i.definition.name.text)) i.definition.set = no_other documents rs are promise.ranked.0 promise.ranked.1 i.definition defined.0 in
            let named_there : Contains t (fragment i.definition.name i.definition.on [] i.definition.set i.definition.braces i.definition.place) =
            subst (λ (x : List (Def Span)). Contains x (fragment i.definition.name i.definition.on [] i.definition.set i.definition.braces i.definition.place)) (home_tree_is q) home_has in
            reads_with (cut_by true).rewrite (cut_by true).replacements documents in_order small k d t at some.0 some.1 (ordered d d) some.2 (both_there opened gone k p q ∙ text) (left k)
            (both d.text t i.name i.directives i.place i.definition.name i.definition.on i.definition.set i.definition.braces i.definition.place k derives (executables q)
            (spread_stays k i.definition t in_place (has_fragment q) other i.name i.directives i.place called_so (has_spread p)) named_there)
            (ap left (sym (same_number i.definition.file k q)) ∙ sym (changed_there (cut_by true).rewrite k t p refl))

        reads_going : Small true → ReadsAt (cut_by true).rewrite (cut_by true).replacements k d t
        reads_going small = by (nat_eq i.file k) (nat_eq i.definition.file k) refl refl
          where
            by : (a b : Bool) → nat_eq i.file k ≡ a → nat_eq i.definition.file k ≡ b → ReadsAt (cut_by true).rewrite (cut_by true).replacements k d t
            by true true p q = both_read small p q
            by true false p q = opened_reads true small p (only_first opened gone k p q) (elsewhere_kept (record { file = i.definition.file; place = i.definition.place }) k t q)
            by false true p q = gone_reads small p q
            by false false p q =
                let still : is_edited (cut_by true).rewrite k ≡ false = ap (λ (z : Bool). z || nat_eq i.definition.file k) p ∙ q in
                reads_as_before (cut_by true).rewrite (cut_by true).replacements k d t (inline_quiet i.file i.document.text i.directives i.place i.definition i.home.text true) still derives

        reads_staying : Small false → ReadsAt (cut_by false).rewrite (cut_by false).replacements k d t
        reads_staying small = by (nat_eq i.file k) refl
          where
            by : (a : Bool) → nat_eq i.file k ≡ a → ReadsAt (cut_by false).rewrite (cut_by false).replacements k d t
            by true p = opened_reads false small p (kept opened [] k p) (all_kept k t)
            by false p =
                let still : is_edited (cut_by false).rewrite k ≡ false = ap (λ (z : Bool). z || false) p in
                reads_as_before (cut_by false).rewrite (cut_by false).replacements k d t (inline_quiet i.file i.document.text i.directives i.place i.definition i.home.text false) still derives

        reads_by : (b : Bool) → Small b → ReadsAt (cut_by b).rewrite (cut_by b).replacements (0 + k) d t
        reads_by b small = let e : k ≡ 0 + k = omega arith in subst (λ (n : ℕ). ReadsAt (cut_by b).rewrite (cut_by b).replacements n d t) e (by b small)
          where
            by : (c : Bool) → Small c → ReadsAt (cut_by c).rewrite (cut_by c).replacements k d t
            by true small = reads_going small
            by false small = reads_staying small

      its_fragment : IsItsFragment (executable_of rs) can.0.name.text spread_here
      its_fragment =
          let own : IsItsFragment (executable_of rs) i.name.text spread_here = record {
            fragment = i.definition;
            stands = defined.0;
            is_named = called_so;
            is_on = refl;
            is_set = refl;
            no_variable = λ name place w. nothing_in w.directive (subst (λ (ds : List (DirectiveOf Span)). Contains ds w.directive) bare w.given);
          } in
          subst (λ (n : NameOf Span). IsItsFragment (executable_of rs) n.text spread_here) (sym can.1) own

      own_conditions : (d : DirectiveOf Span) → Contains can.0.directives d → IsCondition d
      own_conditions d c = conditions i.directives quiet_directives.0 d (subst (λ (ds : List (DirectiveOf Span)). Contains ds d) can.2 c)

      its_name : (text : Text) → (if only then Some i.definition.name.text else None) ≡ Some text → text ≡ can.0.name.text
      its_name text e = old_name only i.definition.name.text text e ∙ called_so ∙ ap (λ (n : NameOf Span). n.text) (sym can.1)

      another : (if only then Some i.definition.name.text else None) ≡ None → IsSpreadElsewhere (executable_of rs) can.0.name.text spread_here
      another e =
          let there =
          spread_there rs es i.name.text (asked documents ask rs are es promise i) (selects documents ask rs are es promise i) i.name i.directives i.place i.is_spread (text_itself i.name.text) in
          subst (λ (n : NameOf Span). IsSpreadElsewhere (executable_of rs) n.text spread_here) (sym can.1)
          (another_stands documents rs are i.name.text spread_here (record { file = i.file; span = i.name.place }) there (nothing_goes only i.definition.name.text e))

      inline_passes : Small only → PassesCheck documents (trees_read rs) (inline_cut i)
      inline_passes small =
          let nothing = nothing_demanded apart in
          let keeping = inlined_keeping documents ask rs are es promise i in
          let w = cut_reads documents (trees_read rs) (inline_cut i) in_order trees_stand
          (each_reads (inline_cut i).rewrite (inline_cut i).replacements 0 documents (trees_read rs) trees_stand (λ k d t at tree_at derives. reads_by k d t at tree_at derives only small)) in (
            w,
            ∣ leaves_valid one_tree nothing documents in_order valid es rs are (inline_cut i) keeping w
                (λ after entries rewritten_so. rules rs after (if only then Some i.definition.name.text else None) spread_here entries rewritten_so promise.rooted
                (sound documents rs are es promise.rooted promise.known promise.defined) can.0 its_fragment own_conditions its_name another
                (no_rule nothing documents rs valid are)) ∣₁,
          )

    -- So it is however the type system of the documents is given.
    pub inlines_pass : (types : List EntryOf) → IsTypeSystemOf documents types → (i : Inlining documents types rs ask) → (IsDirectiveInWay documents types rs ask → ⊥) →
        (PassesLimits documents (inline_cut i) → ⊥) → PassesCheck documents (trees_read rs) (inline_cut i)
    inlines_pass types of_documents =
        let P : List EntryOf → Type 0 =
        λ z. (i : Inlining documents z rs ask) → (IsDirectiveInWay documents z rs ask → ⊥) → (PassesLimits documents (inline_cut i) → ⊥) → PassesCheck documents (trees_read rs) (inline_cut i) in
        subst P (types_are one_tree apart stay documents in_order valid types of_documents rs are) (λ i free small. inline_passes (promised apart documents valid rs are) i free small)

-- So no answer is the refusal that a check failed.
pub never_refused : InlinesPass → AnswersPass IsInlineAnswer
never_refused pass documents ask in_order valid a =
    let i = a.offer.0.0 in
    a.offer.0.1
    (pass documents in_order valid a.readings a.are_readings ask a.types a.is_type_system i (λ in_way. a.offer.1 DirectiveInWay (omega arith) in_way)
    (λ large. a.offer.1 TooLarge (omega arith) (i, large)))
