use Rattle.std.proofs.Common.{◌≡◌, ◌++◌, drop, map}
use Rattle.gq_tree.specs.Views.{input_view}
use Rattle.gq_type_system.specs.DirectivesAndDefaults.{input_field_site}
use Rattle.gq_type_system.specs.Helping.DirectivesAndDefaultsPlaces.{sites_view}
use Rattle.gq_type_system.proofs.directive_sites.put_input_field_sites.Given as goal

abbrev pub invariant-loop-field : goal.invariant-loop-field
invariant-loop-field l = sites_view l.sites.items ++ map input_field_site (map input_view (drop l.field-index l.fields)) ≡ sites_view l.initial.sites.items ++ map input_field_site (map input_view l.fields)
