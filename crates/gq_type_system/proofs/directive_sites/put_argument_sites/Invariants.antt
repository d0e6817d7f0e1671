use Rattle.std.proofs.Common.{◌≡◌, ◌++◌, drop, map}
use Rattle.gq_tree.specs.Views.{input_view}
use Rattle.gq_type_system.specs.DirectivesAndDefaults.{argument_site}
use Rattle.gq_type_system.specs.Helping.DirectivesAndDefaultsPlaces.{sites_view}
use Rattle.gq_type_system.proofs.directive_sites.put_argument_sites.Given as goal

abbrev pub invariant-loop-argument : goal.invariant-loop-argument
invariant-loop-argument l = sites_view l.sites.items ++ map argument_site (map input_view (drop l.argument-index l.arguments)) ≡ sites_view l.initial.sites.items ++ map argument_site (map input_view l.arguments)
