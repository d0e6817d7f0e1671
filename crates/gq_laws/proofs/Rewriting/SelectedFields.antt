-- The fields of the sets of fields that stand in a project are among its selections (sections 5.3 and 5.3.2).
use Rattle.std.proofs.Common.{◌≡◌, List, Option, Some, None, refl, subst, Contains}
use Rattle.gq_text.specs.declared.place.Span.{Span}
use Rattle.gq_tree.specs.Plain.{NameOf, DirectiveOf, Sel, field, inline}
use Rattle.gq_types.specs.Entries.{Text, EntryOf}
use Rattle.gq_document.specs.Definitions.{OperationOf}
use Rattle.gq_document.specs.Selections as selections
use Rattle.gq_document.specs.Selections.{IsSelectionWithin, parent_below, of_operation, of_fragment}
use Rattle.gq_document.specs.Executable.{ExecutableOf, Selects}
use Rattle.gq_document.specs.FieldSets as sets
use Rattle.gq_document.specs.FieldSets.{SetOf, FieldAt, operation_set, fragment_set, field_set, narrowed, InSet}

-- all selections of a set are selections of the project
abbrev pub AreSelected : ExecutableOf → SetOf → Type 0
AreSelected x set = (inner : Option Text) (selection : Sel Span) → IsSelectionWithin x.entries set.parent set.selections inner selection → Selects x (record { file = set.file; parent = inner; selection = selection })

-- a field is a selection of the project, and those in its braces are
pub record IsSelectedField (x : ExecutableOf) (f : FieldAt) : Type 0 where
  pub directives : List (DirectiveOf Span)
  pub braces : Option Span
  pub stands : Selects x (record { file = f.file; parent = f.parent; selection = record { label = field f.alias f.name f.arguments directives braces f.place; below = f.below } })
  pub below : AreSelected x (field_set x.entries f)

narrowed_is : (es : List EntryOf) (on : Option (NameOf Span)) (directives : List (DirectiveOf Span)) (braces place : Span) (parent : Option Text) → narrowed on parent ≡ parent_below es parent (inline on directives braces place)
narrowed_is es None directives braces place parent = refl
narrowed_is es (Some name) directives braces place parent = refl

pub field_selected : (x : ExecutableOf) {set : SetOf} {f : FieldAt} → InSet x set f → AreSelected x set → IsSelectedField x f
field_selected x (sets.here {directives = directives} {braces = braces}) all = record {
  directives = directives;
  braces = braces;
  stands = all _ _ selections.here;
  below = λ inner selection s. all inner selection (selections.within s);
}
field_selected x (sets.within {file} {parent} {on = on} {directives = directives} {braces = braces} {place = place} {below = below} i) all =
    field_selected x i (λ inner selection s. all inner selection (selections.within (subst (λ p. IsSelectionWithin x.entries p below inner selection) (narrowed_is x.entries on directives braces place parent) s)))
field_selected x (sets.through c e i) all = field_selected x i (λ inner selection s. of_fragment c (refl, s))
field_selected x (sets.after i) all = field_selected x i (λ inner selection s. all inner selection (selections.after s))

pub operation_selected : (x : ExecutableOf) (o : OperationOf) → Contains x.operations o → AreSelected x (operation_set x.entries o)
operation_selected x o c inner selection s = of_operation c (refl, s)
