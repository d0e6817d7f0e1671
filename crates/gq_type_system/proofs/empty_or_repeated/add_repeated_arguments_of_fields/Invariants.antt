use Rattle.std.proofs.Common.{◌≡◌, ◌++◌, drop, map, flat_map}
use Rattle.gq_tree.specs.Views.{field_definition_view}
use Rattle.gq_type_system.specs.Helping.EmptyOrRepeatedPlaces.{repeated_arguments_in}
use Rattle.gq_type_system.proofs.empty_or_repeated.add_repeated_arguments_of_fields.Given as goal

abbrev pub invariant-loop-field : goal.invariant-loop-field
invariant-loop-field l = l.faults.items ++ flat_map (repeated_arguments_in l.file) (map (λ f. f.arguments) (map field_definition_view (drop l.field-index l.fields))) ≡ l.initial.faults.items ++ flat_map (repeated_arguments_in l.file) (map (λ f. f.arguments) (map field_definition_view l.fields))
