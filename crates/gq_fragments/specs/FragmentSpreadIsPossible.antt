-- Fragment spread is possible (section 5.5.2.3): the type of the parent and the type of what is spread have a possible
-- object type in common.
use Rattle.std.specs.Prelude.{◌≡◌, List, Some, Contains}
use Rattle.gq_text.specs.declared.place.Span.{Span}
use Rattle.gq_tree.specs.Plain.{NameOf, DirectiveOf, Head, spread, inline}
use Rattle.gq_fault.specs.declared.code.Code.TheVariants.{SpreadNotPossible}
use Rattle.gq_fault.specs.declared.fault.Fault.{Fault}
use Rattle.gq_types.specs.declared.entry.TypeKind.{TypeKind}
use Rattle.gq_types.specs.Entries.{Text, EntryOf}
use Rattle.gq_types.specs.Joined.{kind_named}
use Rattle.gq_types.specs.Possible.{IsPossible}
use Rattle.gq_document.specs.Definitions.{FragmentOf}
use Rattle.gq_document.specs.Selections.{SelectedOf}
use Rattle.gq_document.specs.Executable.{ExecutableOf, Selects}
use Rattle.gq_fault.specs.FaultPlaces.{fault_over, first_bytes}

-- Both are names of types, and no object type is possible for both.
pub record HaveNoObject (es : List EntryOf) (parent condition : Text) : Type 0 where
  pub parent_kind : TypeKind
  pub parent_is_known : kind_named es parent ≡ Some parent_kind
  pub condition_kind : TypeKind
  pub condition_is_known : kind_named es condition ≡ Some condition_kind
  pub none_is_possible : (object : Text) → IsPossible es parent object → IsPossible es condition object → ⊥

-- The type condition of what a selection spreads, and the place of the spread: the name of the fragment, of which there
-- may be several, or the three dots of an inline fragment.
pub data IsSpread (fs : List FragmentOf) : Head Span → (condition : Text) → (place : Span) → Type 0 where
  of_fragment : {f : FragmentOf} {name : NameOf Span} {directives : List (DirectiveOf Span)} {place : Span} →
      Contains fs f → f.name.text ≡ name.text → IsSpread fs (spread name directives place) f.on.text name.place
  of_inline_fragment : {condition : NameOf Span} {directives : List (DirectiveOf Span)} {braces place : Span} →
      IsSpread fs (inline (Some condition) directives braces place) condition.text (first_bytes 3 place)

-- a spread where the type of the parent and the type condition have no object type in common
pub record IsSpreadNotPossible (x : ExecutableOf) (fault : Fault) : Type 0 where
  pub selected : SelectedOf
  pub is_selected : Selects x selected
  pub parent : Text
  pub is_below : selected.parent ≡ Some parent
  pub condition : Text
  pub place : Span
  pub is_spread : IsSpread x.fragments selected.selection.label condition place
  pub have_no_object : HaveNoObject x.entries parent condition
  pub is : fault ≡ fault_over selected.file SpreadNotPossible place
