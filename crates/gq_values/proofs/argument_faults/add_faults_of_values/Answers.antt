use Rattle.std.proofs.Common.{◌++◌, map, None}
use Rattle.gq_tree.specs.Views.{argument_view}
use Rattle.gq_types.specs.Look.{types_view}
use Rattle.gq_values.specs.ArgumentPlaces.{value_faults_of, argument_value_faults}
use Rattle.gq_values.proofs.Steps.{turn_seen}
use Rattle.gq_values.proofs.argument_faults.add_faults_of_values.Goals as goal

pub loop-argument-preserved : goal.loop-argument-preserved
loop-argument-preserved c =
    let es = types_view c.args.types.now in
    turn_seen (value_faults_of es c.args.file None) argument_view c.args.arguments.now c.loop-argument.argument-index c.argument-item.result c.loop-argument.faults.items c.add_faults_of_value.new.faults.items
    (c.args.faults.now.items ++ argument_value_faults es c.args.file None (map argument_view c.args.arguments.now)) c.loop-argument-test.true c.argument-item.is c.loop-argument.invariant c.in_ok-add_faults_of_value.ensures
