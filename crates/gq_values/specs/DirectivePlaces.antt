-- The faults of directives, computed.
use Rattle.std.specs.Prelude.{ℕ, Bool, true, List, [], ◌∷◌, ◌++◌, Option, Some, None, map, flat_map, if◌then◌else◌}
use Rattle.std.specs.Option.{option_map_or}
use Rattle.std.specs.List.{list_any}
use Rattle.gq_text.specs.declared.place.Span.{Span}
use Rattle.gq_tree.specs.declared.type_system.DirectiveLocation.{DirectiveLocation}
use Rattle.gq_tree.specs.Plain.{NameOf, DirectiveOf, TypeSystemOf}
use Rattle.gq_tree.specs.Same.{same_locations}
use Rattle.gq_names.specs.Repeats.{repeated_after}
use Rattle.gq_fault.specs.declared.code.Code.TheVariants.{UnknownDirective, DirectiveInWrongPlace, DirectiveRepeated}
use Rattle.gq_fault.specs.declared.fault.Fault.{Fault}
use Rattle.gq_types.specs.Arguments.{directive_arguments}
use Rattle.gq_types.specs.Directives.{locations_in}
use Rattle.gq_types.specs.Entries.{Text, EntryOf}
use Rattle.gq_types.specs.Names.{directive_named}
use Rattle.gq_fault.specs.FaultPlaces.{fault_at}
use Rattle.gq_values.specs.ArgumentPlaces.{argument_faults}
use Rattle.gq_values.specs.DirectiveFaults.{is_repeatable}

abbrev pub directive_texts : List (DirectiveOf Span) → List Text
directive_texts directives = map (λ d. d.name.text) directives

abbrev pub place_faults : ℕ → DirectiveLocation → NameOf Span → Option (TypeSystemOf Span) → List Fault
place_faults file location name None = fault_at file UnknownDirective name ∷ []
place_faults file location name (Some definition) = if list_any (same_locations location) (locations_in definition) then [] else fault_at file DirectiveInWrongPlace name ∷ []

abbrev pub faults_of_directive : List EntryOf → ℕ → DirectiveLocation → DirectiveOf Span → List Fault
faults_of_directive es file location d =
    place_faults file location d.name (directive_named es d.name.text) ++ argument_faults es file (directive_arguments es d.name.text) d.name d.arguments

abbrev pub faults_of_directives : List EntryOf → ℕ → DirectiveLocation → List (DirectiveOf Span) → List Fault
faults_of_directives es file location directives = flat_map (faults_of_directive es file location) directives

-- whether it may stand twice; what is not known may
abbrev pub may_repeat : List EntryOf → Text → Bool
may_repeat es text = option_map_or is_repeatable (directive_named es text) true

abbrev pub repetition_at : List EntryOf → ℕ → DirectiveOf Span → List Fault
repetition_at es file d = if may_repeat es d.name.text then [] else fault_at file DirectiveRepeated d.name ∷ []

abbrev pub repetitions : List EntryOf → ℕ → List Text → List (DirectiveOf Span) → List Fault
repetitions es file before directives = flat_map (repetition_at es file) (repeated_after (λ d. d.name.text) before directives)

-- what is told of directives
abbrev pub directive_faults : List EntryOf → ℕ → DirectiveLocation → List Text → List (DirectiveOf Span) → List Fault
directive_faults es file location before directives = faults_of_directives es file location directives ++ repetitions es file before directives
