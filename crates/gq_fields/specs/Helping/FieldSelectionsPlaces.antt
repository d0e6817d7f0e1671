-- What is told of fields that are not defined, at one selection, computed.
use Rattle.std.specs.Prelude.{ℕ, Bool, false, List, [], ◌∷◌, Option, Some, None, if◌then◌else◌, is_some}
use Rattle.gq_text.specs.declared.place.Span.{Span}
use Rattle.gq_fault.specs.declared.code.Code.TheVariants.{UnknownField}
use Rattle.gq_fault.specs.declared.fault.Fault.{Fault}
use Rattle.gq_tree.specs.Plain.{NameOf, Head, field, spread, inline}
use Rattle.gq_types.specs.Entries.{Text, EntryOf}
use Rattle.gq_types.specs.Joined.{kind_named}
use Rattle.gq_document.specs.Selections.{FieldOf, field_on, SelectedOf}
use Rattle.gq_fault.specs.FaultPlaces.{fault_at}

abbrev pub is_unknown_where : Bool → Option FieldOf → Bool
is_unknown_where known None = known
is_unknown_where known (Some f) = false

-- whether the type of that name is known and has no field of that name
abbrev pub is_unknown : List EntryOf → (type_name text : Text) → Bool
is_unknown es type_name text = is_unknown_where (is_some (kind_named es type_name)) (field_on es type_name text)

abbrev pub unknown_field_on : List EntryOf → ℕ → Option Text → NameOf Span → List Fault
unknown_field_on es file None name = []
unknown_field_on es file (Some type_name) name = if is_unknown es type_name name.text then fault_at file UnknownField name ∷ [] else []

abbrev pub unknown_field_in : List EntryOf → ℕ → Option Text → Head Span → List Fault
unknown_field_in es file parent (field alias name arguments directives braces place) = unknown_field_on es file parent name
unknown_field_in es file parent (spread name directives place) = []
unknown_field_in es file parent (inline condition directives braces place) = []

abbrev pub unknown_field_at : List EntryOf → SelectedOf → List Fault
unknown_field_at es s = unknown_field_in es s.file s.parent s.selection.label
