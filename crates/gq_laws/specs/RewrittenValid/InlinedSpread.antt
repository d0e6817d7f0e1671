-- A spread that becomes an inline fragment (section 2.8), and its fragment.
use Rattle.std.specs.Prelude.{◌≡◌, ◌⊎◌, ◌&&◌, codes, false, nat_eq, List, Contains}
use Rattle.gq_text.specs.declared.place.Span.{Span}
use Rattle.gq_tree.specs.Plain.{NameOf, DirectiveOf, spread}
use Rattle.gq_types.specs.Entries.{Text}
use Rattle.gq_document.specs.Definitions.{FragmentOf}
use Rattle.gq_document.specs.Selections.{SelectedOf}
use Rattle.gq_document.specs.Executable.{ExecutableOf, Selects}
use Rattle.gq_variables.specs.Uses.{PlaceOf, StandsInDirectives}
use Rattle.gq_rewritten.specs.Rewrites.{same_place}
use Rattle.gq_laws.specs.Rewriting.Edits.{SpreadAt}

-- a directive that may stand at spreads and at inline fragments alike
abbrev pub IsCondition : DirectiveOf Span → Type 0
IsCondition d = (d.name.text ≡ codes "skip") ⊎ (d.name.text ≡ codes "include")

-- The fragment of that name has the type condition and the selections of the inline fragment, and no variable in its directives.
pub record IsItsFragment (x : ExecutableOf) (text : Text) (s : SpreadAt) : Type 0 where
  pub fragment : FragmentOf
  pub stands : Contains x.fragments fragment
  pub is_named : fragment.name.text ≡ text
  pub is_on : fragment.on.text ≡ s.on
  pub is_set : fragment.set ≡ s.set
  pub no_variable : (name : NameOf Span) (place : PlaceOf) → StandsInDirectives x.entries fragment.directives name place → ⊥

-- Another spread of that name than the one at the place stands in an operation or a fragment.
pub record IsSpreadElsewhere (x : ExecutableOf) (text : Text) (s : SpreadAt) : Type 0 where
  pub selected : SelectedOf
  pub stands : Selects x selected
  pub name : NameOf Span
  pub directives : List (DirectiveOf Span)
  pub place : Span
  pub is_spread : selected.selection.label ≡ spread name directives place
  pub is_named : name.text ≡ text
  pub is_another : (nat_eq s.file selected.file && same_place place s.place) ≡ false
