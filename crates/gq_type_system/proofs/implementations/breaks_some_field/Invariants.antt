use Rattle.std.proofs.Common.{◌≡◌, drop, map}
use Rattle.std.specs.List.{list_any}
use Rattle.gq_tree.specs.Views.{field_definition_view}
use Rattle.gq_types.specs.Look.{types_view}
use Rattle.gq_type_system.specs.Helping.ImplementationsPlaces.{breaks_field_named}
use Rattle.gq_type_system.proofs.implementations.breaks_some_field.Given as goal

abbrev pub invariant-loop-field : goal.invariant-loop-field
invariant-loop-field l = list_any (λ f. breaks_field_named (types_view l.types) l.number l.interface f.name.text) (map field_definition_view (drop l.field-index l.fields)) ≡ list_any (λ f. breaks_field_named (types_view l.types) l.number l.interface f.name.text) (map field_definition_view l.fields)
