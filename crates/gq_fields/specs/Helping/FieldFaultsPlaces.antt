-- What the rules put, in the order of operations and fragments, computed.
use Rattle.std.specs.Prelude.{ℕ, List, ◌++◌, Option, flat_map, is_some}
use Rattle.gq_text.specs.declared.place.Span.{Span}
use Rattle.gq_fault.specs.declared.fault.Fault.{Fault}
use Rattle.gq_tree.specs.Plain.{NameOf, Val, VariableOf}
use Rattle.gq_types.specs.Entries.{Text, EntryOf}
use Rattle.gq_values.specs.ArgumentPlaces.{argument_faults}
use Rattle.gq_document.specs.Definitions.{OperationOf, FragmentOf}
use Rattle.gq_document.specs.Selections.{SelectedOf, selected_field, operation_selections, fragment_selections}
use Rattle.gq_document.specs.Executable.{ExecutableOf}
use Rattle.gq_fields.specs.Directives.{operation_site, variable_site, fragment_site, selection_site}
use Rattle.gq_fields.specs.Helping.FieldSelectionsPlaces.{unknown_field_on, unknown_field_at}
use Rattle.gq_fields.specs.Helping.LeafFieldSelectionsPlaces.{wrong_of_field, wrong_selections_at}
use Rattle.gq_fields.specs.Helping.ArgumentsPlaces.{defined_arguments, wrong_arguments_at}
use Rattle.gq_fields.specs.Helping.DirectivesPlaces.{wrong_directives_at}
use Rattle.gq_fields.specs.Helping.ValuesPlaces.{wrong_default_of}

-- of a field that is selected
abbrev pub faults_of_field : List EntryOf → ℕ → Option Text → NameOf Span → Option Span → List (Val Span) → List Fault
faults_of_field es file parent name braces arguments =
    unknown_field_on es file parent name
    ++ (wrong_of_field es file name (is_some braces) (selected_field es parent name.text)
    ++ argument_faults es file (defined_arguments es parent name.text) name arguments)

abbrev pub faults_of_named : List EntryOf → SelectedOf → List Fault
faults_of_named es s = unknown_field_at es s ++ (wrong_selections_at es s ++ wrong_arguments_at es s)

-- at one selection
abbrev pub selection_faults : List EntryOf → SelectedOf → List Fault
selection_faults es s = unknown_field_at es s ++ (wrong_selections_at es s ++ (wrong_arguments_at es s ++ wrong_directives_at es (selection_site s)))

abbrev pub selections_faults : List EntryOf → List SelectedOf → List Fault
selections_faults es ss = flat_map (selection_faults es) ss

-- at the definition of a variable
abbrev pub variable_faults : List EntryOf → ℕ → VariableOf Span → List Fault
variable_faults es file v = wrong_directives_at es (variable_site file v) ++ wrong_default_of es file v

abbrev pub variables_faults : List EntryOf → ℕ → List (VariableOf Span) → List Fault
variables_faults es file vs = flat_map (variable_faults es file) vs

-- in an operation, and in a fragment
abbrev pub operation_faults : List EntryOf → OperationOf → List Fault
operation_faults es o =
    wrong_directives_at es (operation_site o) ++ (variables_faults es o.file o.variables ++ selections_faults es (operation_selections es o))

abbrev pub fragment_faults : List EntryOf → FragmentOf → List Fault
fragment_faults es f = wrong_directives_at es (fragment_site f) ++ selections_faults es (fragment_selections es f)

abbrev pub operations_faults : List EntryOf → List OperationOf → List Fault
operations_faults es os = flat_map (operation_faults es) os

abbrev pub fragments_faults : List EntryOf → List FragmentOf → List Fault
fragments_faults es fs = flat_map (fragment_faults es) fs

-- in all of them
abbrev pub field_faults : ExecutableOf → List Fault
field_faults x = operations_faults x.entries x.operations ++ fragments_faults x.entries x.fragments
