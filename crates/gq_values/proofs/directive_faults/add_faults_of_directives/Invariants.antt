use Rattle.std.proofs.Common.{◌≡◌, ◌++◌, drop, map}
use Rattle.gq_tree.specs.Views.{directive_view}
use Rattle.gq_types.specs.Look.{types_view}
use Rattle.gq_values.specs.DirectivePlaces.{faults_of_directives}
use Rattle.gq_values.proofs.directive_faults.add_faults_of_directives.Given as goal

abbrev pub invariant-loop-directive : goal.invariant-loop-directive
invariant-loop-directive l =
    l.faults.items ++ faults_of_directives (types_view l.types) l.file l.location (map directive_view (drop l.directive-index l.directives)) ≡ l.initial.faults.items ++ faults_of_directives (types_view l.types) l.file l.location (map directive_view l.directives)
