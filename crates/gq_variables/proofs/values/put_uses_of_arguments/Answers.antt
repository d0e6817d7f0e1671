use Rattle.std.proofs.Common.{◌++◌, map}
use Rattle.gq_values.specs.ArgumentPlaces.{definitions_view}
use Rattle.gq_tree.specs.Views.{argument_view}
use Rattle.gq_types.specs.Look.{types_view}
use Rattle.gq_values.proofs.Steps.{turn_seen}
use Rattle.gq_variables.specs.Helping.UsesPlaces.{uses_of_argument, argument_uses}
use Rattle.gq_variables.specs.Helping.Views.{uses_view}
use Rattle.gq_variables.proofs.values.put_uses_of_arguments.Goals as goal

pub loop-argument-preserved : goal.loop-argument-preserved
loop-argument-preserved c =
    let es = types_view c.args.types.now in
    let known = definitions_view c.args.known in
    turn_seen (uses_of_argument es c.args.file known) argument_view c.args.arguments.now c.loop-argument.argument-index c.argument-item.result
    (uses_view c.loop-argument.uses.items) (uses_view c.put_uses_of_argument.new.uses.items)
    (uses_view c.args.uses.now.items ++ argument_uses es c.args.file known (map argument_view c.args.arguments.now)) c.loop-argument-test.true c.argument-item.is c.loop-argument.invariant c.in_ok-put_uses_of_argument.ensures
