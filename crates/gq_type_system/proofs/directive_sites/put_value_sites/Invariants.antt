use Rattle.std.proofs.Common.{◌≡◌, ◌++◌, drop, map}
use Rattle.gq_tree.specs.Views.{enum_value_view}
use Rattle.gq_type_system.specs.DirectivesAndDefaults.{value_site}
use Rattle.gq_type_system.specs.Helping.DirectivesAndDefaultsPlaces.{sites_view}
use Rattle.gq_type_system.proofs.directive_sites.put_value_sites.Given as goal

abbrev pub invariant-loop-value : goal.invariant-loop-value
invariant-loop-value l = sites_view l.sites.items ++ map value_site (map enum_value_view (drop l.value-index l.values)) ≡ sites_view l.initial.sites.items ++ map value_site (map enum_value_view l.values)
