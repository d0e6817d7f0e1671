use Rattle.gq_types.specs.Look.{types_view}
use Rattle.gq_type_system.specs.Helping.DirectivesAndDefaultsPlaces.{itself, group_view}
use Rattle.gq_type_system.proofs.GroupLemmas.{gathered}
use Rattle.gq_type_system.proofs.directives_and_defaults.group_of.Goals as goal

pub returns : goal.returns
returns c =
    gathered itself (types_view c.args.types.now) c.args.number c.joined-numbers.result.now (group_view c.loop-one.group.items) c.loop-one.one-index c.joined-numbers.ensures c.loop-one-test.false c.loop-one.invariant
