use Rattle.std.proofs.Common.{◌≡◌, ◌++◌, drop, map, flat_map}
use Rattle.gq_tree.specs.Views.{field_definition_view}
use Rattle.gq_type_system.specs.Helping.DirectivesAndDefaultsPlaces.{inputs_view}
use Rattle.gq_type_system.proofs.directive_sites.put_arguments_of_fields.Given as goal

abbrev pub invariant-loop-field : goal.invariant-loop-field
invariant-loop-field l = inputs_view l.inputs.items ++ flat_map (λ f. f.arguments) (map field_definition_view (drop l.field-index l.fields)) ≡ inputs_view l.initial.inputs.items ++ flat_map (λ f. f.arguments) (map field_definition_view l.fields)
