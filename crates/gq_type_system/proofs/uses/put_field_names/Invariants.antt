use Rattle.std.proofs.Common.{◌≡◌, ◌++◌, drop, map, flat_map}
use Rattle.gq_tree.specs.Views.{field_definition_view}
use Rattle.gq_type_system.specs.Helping.UsesViews.{names_view}
use Rattle.gq_type_system.specs.Uses.{field_names}
use Rattle.gq_type_system.proofs.uses.put_field_names.Given as goal

abbrev pub invariant-loop-field : goal.invariant-loop-field
invariant-loop-field l = names_view l.names.items ++ flat_map field_names (map field_definition_view (drop l.field-index l.fields)) ≡ names_view l.initial.names.items ++ flat_map field_names (map field_definition_view l.fields)
