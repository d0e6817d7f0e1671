-- The faults of arguments, computed.
use Rattle.std.specs.Prelude.{ℕ, List, [], ◌∷◌, ◌++◌, Option, Some, None, map, flat_map, if◌then◌else◌}
use Rattle.std.specs.Option.{option_map, option_map_or}
use Rattle.gq_text.specs.declared.place.Span.{Span}
use Rattle.gq_tree.specs.Plain.{NameOf, Val, InputOf}
use Rattle.gq_tree.specs.Views.{input_view}
use Rattle.gq_names.specs.Repeats.{repeated_after}
use Rattle.gq_fault.specs.declared.code.Code.TheVariants.{UnknownArgument, ArgumentNotUnique, ArgumentMissing}
use Rattle.gq_fault.specs.declared.fault.Fault.{Fault}
use Rattle.gq_types.specs.declared.arguments.Arguments.{Arguments}
use Rattle.gq_types.specs.Entries.{Text, EntryOf}
use Rattle.gq_types.specs.Names.{argument_named}
use Rattle.gq_types.specs.Required.{is_any_missing}
use Rattle.gq_fault.specs.FaultPlaces.{fault_at}
use Rattle.gq_values.specs.LiteralPlaces.{texts, literal_faults}
use Rattle.gq_values.specs.ArgumentFaults.{argument_names, argument_at}

-- what the code's definitions of arguments stand for
abbrev pub definitions_view : Option Arguments → Option (List (InputOf Span))
definitions_view o = option_map (λ a. map input_view a.all.now) o

abbrev pub repeated_arguments : ℕ → List Text → List (NameOf Span) → List Fault
repeated_arguments file before names = map (fault_at file ArgumentNotUnique) (repeated_after (λ n. n.text) before names)

abbrev pub unknown_argument_at : ℕ → List (InputOf Span) → NameOf Span → List Fault
unknown_argument_at file known name = option_map_or (λ i. []) (argument_named known name.text) (fault_at file UnknownArgument name ∷ [])

abbrev pub unknown_arguments : ℕ → List (InputOf Span) → List (NameOf Span) → List Fault
unknown_arguments file known names = flat_map (unknown_argument_at file known) names

-- one fault, where any is missing
abbrev pub missing_among : ℕ → List (InputOf Span) → List Text → NameOf Span → List Fault
missing_among file known given name = if is_any_missing known given then fault_at file ArgumentMissing name ∷ [] else []

abbrev pub known_faults : ℕ → Option (List (InputOf Span)) → NameOf Span → List (NameOf Span) → List Fault
known_faults file None name names = []
known_faults file (Some known) name names = unknown_arguments file known names ++ missing_among file known (texts names) name

abbrev pub value_faults_under : List EntryOf → ℕ → Option (List (InputOf Span)) → Val Span → Option (NameOf Span) → List Fault
value_faults_under es file definitions argument None = []
value_faults_under es file definitions argument (Some key) = literal_faults es file (argument_at definitions key.text) argument

abbrev pub value_faults_of : List EntryOf → ℕ → Option (List (InputOf Span)) → Val Span → List Fault
value_faults_of es file definitions argument = value_faults_under es file definitions argument argument.label.key

abbrev pub argument_value_faults : List EntryOf → ℕ → Option (List (InputOf Span)) → List (Val Span) → List Fault
argument_value_faults es file definitions arguments = flat_map (value_faults_of es file definitions) arguments

-- what is told of arguments
abbrev pub argument_faults : List EntryOf → ℕ → Option (List (InputOf Span)) → NameOf Span → List (Val Span) → List Fault
argument_faults es file definitions name arguments =
    repeated_arguments file [] (argument_names arguments) ++ (known_faults file definitions name (argument_names arguments) ++ argument_value_faults es file definitions arguments)
