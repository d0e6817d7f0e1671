-- What is told of the arguments of a field, at one selection, computed.
use Rattle.std.specs.Prelude.{List, [], Option}
use Rattle.std.specs.Option.{option_map}
use Rattle.gq_text.specs.declared.place.Span.{Span}
use Rattle.gq_fault.specs.declared.fault.Fault.{Fault}
use Rattle.gq_tree.specs.Plain.{InputOf, Head, field, spread, inline}
use Rattle.gq_types.specs.Entries.{Text, EntryOf}
use Rattle.gq_document.specs.Selections.{selected_field, SelectedOf}
use Rattle.gq_values.specs.ArgumentPlaces.{argument_faults}

-- the arguments of the definition of the field, where it is known
abbrev pub defined_arguments : List EntryOf → Option Text → Text → Option (List (InputOf Span))
defined_arguments es parent text = option_map (λ f. f.arguments) (selected_field es parent text)

abbrev pub wrong_arguments_in : List EntryOf → SelectedOf → Head Span → List Fault
wrong_arguments_in es s (field alias name arguments directives braces place) = argument_faults es s.file (defined_arguments es s.parent name.text) name arguments
wrong_arguments_in es s (spread name directives place) = []
wrong_arguments_in es s (inline condition directives braces place) = []

abbrev pub wrong_arguments_at : List EntryOf → SelectedOf → List Fault
wrong_arguments_at es s = wrong_arguments_in es s s.selection.label
