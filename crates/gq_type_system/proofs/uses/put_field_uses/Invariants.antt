use Rattle.std.proofs.Common.{◌≡◌, ◌++◌, drop, map, flat_map}
use Rattle.gq_tree.specs.Views.{field_definition_view}
use Rattle.gq_type_system.specs.Helping.UsesViews.{uses_view}
use Rattle.gq_type_system.specs.Uses.{field_uses}
use Rattle.gq_type_system.proofs.uses.put_field_uses.Given as goal

abbrev pub invariant-loop-field : goal.invariant-loop-field
invariant-loop-field l = uses_view l.uses.items ++ flat_map field_uses (map field_definition_view (drop l.field-index l.fields)) ≡ uses_view l.initial.uses.items ++ flat_map field_uses (map field_definition_view l.fields)
