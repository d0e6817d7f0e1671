-- What is told of selections below fields, at one selection, computed.
use Rattle.std.specs.Prelude.{ℕ, Bool, List, [], ◌∷◌, Option, Some, None, if◌then◌else◌, is_some, not}
use Rattle.gq_text.specs.declared.place.Span.{Span}
use Rattle.gq_fault.specs.declared.code.Code.TheVariants.{WrongSelections}
use Rattle.gq_fault.specs.declared.fault.Fault.{Fault}
use Rattle.gq_tree.specs.Plain.{NameOf, Head, field, spread, inline}
use Rattle.gq_types.specs.declared.entry.TypeKind.{TypeKind}
use Rattle.gq_types.specs.Entries.{EntryOf}
use Rattle.gq_types.specs.Kinds.{is_composite}
use Rattle.gq_types.specs.Joined.{kind_named}
use Rattle.gq_document.specs.Selections.{FieldOf, selected_field, SelectedOf}
use Rattle.gq_tree.specs.NamedTypes.{base_name}
use Rattle.gq_fault.specs.FaultPlaces.{fault_at}

-- whether the two differ
abbrev pub differ : Bool → Bool → Bool
differ a b = if a then not b else b

abbrev pub wrong_at_kind : ℕ → NameOf Span → Bool → Option TypeKind → List Fault
wrong_at_kind file name has_set None = []
wrong_at_kind file name has_set (Some kind) = if differ has_set (is_composite kind) then fault_at file WrongSelections name ∷ [] else []

abbrev pub wrong_of_field : List EntryOf → ℕ → NameOf Span → Bool → Option FieldOf → List Fault
wrong_of_field es file name has_set None = []
wrong_of_field es file name has_set (Some f) = wrong_at_kind file name has_set (kind_named es (base_name f.type_ref))

abbrev pub wrong_selections_in : List EntryOf → SelectedOf → Head Span → List Fault
wrong_selections_in es s (field alias name arguments directives braces place) = wrong_of_field es s.file name (is_some braces) (selected_field es s.parent name.text)
wrong_selections_in es s (spread name directives place) = []
wrong_selections_in es s (inline condition directives braces place) = []

abbrev pub wrong_selections_at : List EntryOf → SelectedOf → List Fault
wrong_selections_at es s = wrong_selections_in es s s.selection.label
