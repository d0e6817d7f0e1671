use Rattle.std.proofs.Common.{arith}
use Rattle.gq_tree.proofs.Trees.{gathers}
use Rattle.gq_type_system.specs.Helping.EndlessInputsPlaces.{endless_input}
use Rattle.gq_types.specs.Look.{types_view}
use Rattle.gq_type_system.proofs.EntryRows.{gathered_more}
use Rattle.gq_type_system.proofs.endless_inputs.add_marked.Goals as goal

pub loop-number-preserved : goal.loop-number-preserved
loop-number-preserved c =
    let more = gathered_more (endless_input (types_view c.args.types.now) c.args.by_non_null.now c.args.by_default.now)
    c.entries-entries.result.now (types_view c.args.types.now) c.entries-entries.ensures c.loop-number.number c.index-entries-number.result c.loop-number-test.true c.index-entries-number.is in
    grind (arith, gathers, more)
