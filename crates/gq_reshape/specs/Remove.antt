-- Remove: the selections of an inline fragment that says nothing stand in its place (section 2.8.2).
use Rattle.std.specs.Prelude.{◌≡◌, ℕ, Bool, true, false, not, ◌&&◌, List, [], ◌∷◌, Option, Some, None}
use Rattle.std.specs.Option.{option_map_or}
use Rattle.std.specs.Str.{bytes_eq}
use Rattle.gq_text.specs.declared.place.Span.{Span}
use Rattle.gq_tree.specs.Plain.{NameOf, DirectiveOf, inline}
use Rattle.gq_project.specs.declared.document.Doc.{Doc}
use Rattle.gq_tree.specs.Readings.{ParsedOf}
use Rattle.gq_types.specs.Entries.{Text, EntryOf}
use Rattle.gq_rewritten.specs.Rewrites.{without_braces}
use Rattle.gq_select.specs.Meant.{StandingOf, is_inline, meant, document_sets}
use Rattle.gq_reshape.specs.Asks.{RangeAsk, IsAskedOf, tree_at}
use Rattle.gq_reshape.specs.Cuts.{Cut}
use Rattle.gq_reshape.specs.declared.placed.PlacedReplacement.{PlacedReplacement}
use Rattle.gq_reshape.specs.Inline.{has_directive}
use Rattle.gq_laws.specs.Cutting.Texts.{opened_text}

-- the inline fragment that a range means
pub record Removal (documents : List Doc) (es : List EntryOf) (readings : List ParsedOf) (ask : RangeAsk) : Type 0 where
  pub file : ℕ
  pub document : Doc
  pub asked_of : IsAskedOf documents ask.key file document
  pub selected : StandingOf
  pub is_meant : meant is_inline ask.range (document_sets es (tree_at readings file)) ≡ Some selected
  pub on : Option (NameOf Span)
  pub directives : List (DirectiveOf Span)
  pub braces : Span
  pub place : Span
  pub is_inline : selected.selection.label ≡ inline on directives braces place

-- it has no directive, and no condition or that of its parent's type
abbrev pub is_parents_type : Option (NameOf Span) → Option Text → Bool
is_parents_type None parent = true
is_parents_type (Some on) parent = option_map_or (λ type_name. bytes_eq type_name on.text) parent false

abbrev pub says_nothing : Option (NameOf Span) → List (DirectiveOf Span) → Option Text → Bool
says_nothing on directives parent = not (has_directive directives) && is_parents_type on parent

-- the replacement and the trees
abbrev pub remove_replacements : (file : ℕ) (text : List ℕ) (place braces : Span) → List PlacedReplacement
remove_replacements file text place braces = record { file = file; replacement = record { span = place; text = opened_text text braces } } ∷ []

abbrev pub remove_at : (file : ℕ) (text : List ℕ) (place braces : Span) → Cut
remove_at file text place braces = record {
  replacements = remove_replacements file text place braces;
  rewrite = record { file = file; change = without_braces place; added = []; dropped = None };
}

abbrev pub remove_cut : {documents : List Doc} {es : List EntryOf} {readings : List ParsedOf} {ask : RangeAsk} → Removal documents es readings ask → Cut
remove_cut r = remove_at r.file r.document.text r.place r.braces

-- nothing is there: no document of that key, or no inline fragment that holds the range
abbrev pub NothingToRemove : List Doc → List EntryOf → List ParsedOf → RangeAsk → Type 0
NothingToRemove documents es readings ask = Removal documents es readings ask → ⊥

-- it says something
pub record IsNotRedundant (documents : List Doc) (es : List EntryOf) (readings : List ParsedOf) (ask : RangeAsk) : Type 0 where
  pub removal : Removal documents es readings ask
  pub says : says_nothing removal.on removal.directives removal.selected.parent ≡ false
