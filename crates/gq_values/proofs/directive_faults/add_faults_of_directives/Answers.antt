use Rattle.std.proofs.Common.{◌++◌, map}
use Rattle.gq_tree.specs.Views.{directive_view}
use Rattle.gq_types.specs.Look.{types_view}
use Rattle.gq_values.specs.DirectivePlaces.{faults_of_directive, faults_of_directives}
use Rattle.gq_values.proofs.Steps.{turn_seen}
use Rattle.gq_values.proofs.directive_faults.add_faults_of_directives.Goals as goal

pub loop-directive-preserved : goal.loop-directive-preserved
loop-directive-preserved c =
    let es = types_view c.args.types.now in
    turn_seen (faults_of_directive es c.args.file c.args.location) directive_view c.args.directives.now c.loop-directive.directive-index c.directive-item.result c.loop-directive.faults.items c.add_faults_of_directive.new.faults.items
    (c.args.faults.now.items ++ faults_of_directives es c.args.file c.args.location (map directive_view c.args.directives.now)) c.loop-directive-test.true c.directive-item.is c.loop-directive.invariant c.in_ok-add_faults_of_directive.ensures
