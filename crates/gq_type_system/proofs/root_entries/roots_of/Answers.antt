use Rattle.gq_type_system.specs.Helping.Groups.{roots_in_entry, roots_in_view}
use Rattle.gq_types.specs.Look.{types_view}
use Rattle.gq_type_system.proofs.GroupLemmas.{gathered}
use Rattle.gq_type_system.proofs.root_entries.roots_of.Goals as goal

pub returns : goal.returns
returns c =
    gathered roots_in_entry (types_view c.args.types.now) c.args.number c.joined-numbers.result.now (roots_in_view c.loop-one.roots.items) c.loop-one.one-index c.joined-numbers.ensures c.loop-one-test.false c.loop-one.invariant
