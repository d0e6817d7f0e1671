use Rattle.std.proofs.Common.{◌++◌, map}
use Rattle.gq_tree.specs.Views.{directive_view}
use Rattle.gq_types.specs.Look.{types_view}
use Rattle.gq_values.proofs.Steps.{turn_seen}
use Rattle.gq_variables.specs.Helping.UsesPlaces.{uses_of_directive, directive_uses}
use Rattle.gq_variables.specs.Helping.Views.{uses_view}
use Rattle.gq_variables.proofs.values.put_uses_of_directives.Goals as goal

pub loop-directive-preserved : goal.loop-directive-preserved
loop-directive-preserved c =
    let es = types_view c.args.types.now in
    turn_seen (uses_of_directive es c.args.file) directive_view c.args.directives.now c.loop-directive.directive-index c.directive-item.result
    (uses_view c.loop-directive.uses.items) (uses_view c.put_uses_of_directive.new.uses.items)
    (uses_view c.args.uses.now.items ++ directive_uses es c.args.file (map directive_view c.args.directives.now)) c.loop-directive-test.true c.directive-item.is c.loop-directive.invariant c.in_ok-put_uses_of_directive.ensures
