-- Inline: a spread becomes an inline fragment with what its fragment selects (section 2.8.2); the last spread takes the definition with it.
use Rattle.std.specs.Prelude.{◌≡◌, ℕ, Bool, true, false, not, ◌&&◌, ◌||◌, nat_lt, nat_eq, List, [], ◌∷◌, Some, None, find, length, slice_get, codes, if◌then◌else◌}
use Rattle.std.specs.List.{list_any}
use Rattle.std.specs.Str.{bytes_eq}
use Rattle.gq_text.specs.declared.place.Span.{Span}
use Rattle.gq_tree.specs.Plain.{NameOf, DirectiveOf, spread, erase_all}
use Rattle.gq_project.specs.declared.document.Doc.{Doc}
use Rattle.gq_tree.specs.Readings.{ParsedOf}
use Rattle.gq_types.specs.Entries.{Text, EntryOf}
use Rattle.gq_document.specs.Definitions.{FragmentOf, fragments_of}
use Rattle.gq_index.specs.Occurrences.{executables, fragment_spreads}
use Rattle.gq_rewritten.specs.Rewrites.{with_inlined}
use Rattle.gq_select.specs.Meant.{StandingOf, is_spread, meant, document_sets}
use Rattle.gq_reshape.specs.Asks.{RangeAsk, IsAskedOf, tree_at}
use Rattle.gq_reshape.specs.Cuts.{Cut}
use Rattle.gq_laws.specs.Cutting.Texts.{inlined_text}
use Rattle.gq_reshape.specs.declared.placed.PlacedReplacement.{PlacedReplacement}

-- The spread that a range means, and the fragment that it spreads with the document that this stands in.
pub record Inlining (documents : List Doc) (es : List EntryOf) (readings : List ParsedOf) (ask : RangeAsk) : Type 0 where
  pub file : ℕ
  pub document : Doc
  pub asked_of : IsAskedOf documents ask.key file document
  pub selected : StandingOf
  pub is_meant : meant is_spread ask.range (document_sets es (tree_at readings file)) ≡ Some selected
  pub name : NameOf Span
  pub directives : List (DirectiveOf Span)
  pub place : Span
  pub is_spread : selected.selection.label ≡ spread name directives place
  pub definition : FragmentOf
  pub is_definition : find (λ f. bytes_eq f.name.text name.text) (fragments_of readings) ≡ Some definition
  pub home : Doc
  pub is_home : slice_get documents definition.file ≡ Some home

-- whether it is the project's only spread of that fragment; LastSpread says it of all spreads
abbrev pub is_only_spread : List ParsedOf → Text → Bool
is_only_spread readings name = nat_eq (length (fragment_spreads (executables readings) name)) 1

-- two replacements in the order of documents and places
abbrev pub comes_first : PlacedReplacement → PlacedReplacement → Bool
comes_first a b = nat_lt a.file b.file || (nat_eq a.file b.file && nat_lt a.replacement.span.start b.replacement.span.start)

abbrev pub in_order : PlacedReplacement → PlacedReplacement → List PlacedReplacement
in_order a b = if comes_first b a then b ∷ a ∷ [] else a ∷ b ∷ []

-- the replacements, where the definition goes or stays, and the trees
abbrev pub inline_replacements : (file : ℕ) (text : List ℕ) (directives : List (DirectiveOf Span)) (place : Span) (definition : FragmentOf) (home : List ℕ) (goes : Bool) → List PlacedReplacement
inline_replacements file text directives place f home goes =
    let opened : PlacedReplacement = record { file = file; replacement = record { span = place; text = inlined_text text home f.on.text directives f.braces } } in
    let gone : PlacedReplacement = record { file = f.file; replacement = record { span = f.place; text = [] } } in
    if goes then in_order opened gone else opened ∷ []

abbrev pub inline_at : (file : ℕ) (text : List ℕ) (directives : List (DirectiveOf Span)) (place : Span) (definition : FragmentOf) (home : List ℕ) (goes : Bool) → Cut
inline_at file text directives place f home goes = record {
  replacements = inline_replacements file text directives place f home goes;
  rewrite = record {
    file = file;
    change = with_inlined place f.on.text (erase_all f.set);
    added = [];
    dropped = if goes then Some (record { file = f.file; place = f.place }) else None;
  };
}

abbrev pub inline_cut : {documents : List Doc} {es : List EntryOf} {readings : List ParsedOf} {ask : RangeAsk} → Inlining documents es readings ask → Cut
inline_cut {readings = readings} i = inline_at i.file i.document.text i.directives i.place i.definition i.home.text (is_only_spread readings i.name.text)

-- nothing is there: no document of that key, no spread that holds the range, or no fragment of its name
abbrev pub NothingToInline : List Doc → List EntryOf → List ParsedOf → RangeAsk → Type 0
NothingToInline documents es readings ask = Inlining documents es readings ask → ⊥

-- a directive other than `@skip` and `@include`
abbrev pub is_in_way : DirectiveOf Span → Bool
is_in_way d = not (bytes_eq d.name.text (codes "skip") || bytes_eq d.name.text (codes "include"))

abbrev pub has_directive : List (DirectiveOf Span) → Bool
has_directive [] = false
has_directive (d ∷ ds) = true

-- the spread has such a directive, or the definition has any
pub record IsDirectiveInWay (documents : List Doc) (es : List EntryOf) (readings : List ParsedOf) (ask : RangeAsk) : Type 0 where
  pub inlining : Inlining documents es readings ask
  pub in_way : (list_any is_in_way inlining.directives || has_directive inlining.definition.directives) ≡ true
