use Rattle.gq_type_system.specs.Helping.Groups.{part_names_in, names_in}
use Rattle.gq_types.specs.Look.{types_view}
use Rattle.gq_type_system.proofs.GroupLemmas.{gathered}
use Rattle.gq_type_system.proofs.parts.part_names.Goals as goal

pub returns : goal.returns
returns c =
    gathered (part_names_in c.args.part) (types_view c.args.types.now) c.args.number c.joined-numbers.result.now (names_in c.loop-one.names.items) c.loop-one.one-index c.joined-numbers.ensures c.loop-one-test.false c.loop-one.invariant
