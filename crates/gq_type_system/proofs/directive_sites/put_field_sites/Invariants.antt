use Rattle.std.proofs.Common.{◌≡◌, ◌++◌, drop, map, flat_map}
use Rattle.gq_tree.specs.Views.{field_definition_view}
use Rattle.gq_type_system.specs.DirectivesAndDefaults.{field_sites}
use Rattle.gq_type_system.specs.Helping.DirectivesAndDefaultsPlaces.{sites_view}
use Rattle.gq_type_system.proofs.directive_sites.put_field_sites.Given as goal

abbrev pub invariant-loop-field : goal.invariant-loop-field
invariant-loop-field l = sites_view l.sites.items ++ flat_map field_sites (map field_definition_view (drop l.field-index l.fields)) ≡ sites_view l.initial.sites.items ++ flat_map field_sites (map field_definition_view l.fields)
