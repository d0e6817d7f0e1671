use Rattle.gq_types.specs.Entries.{entries_view}
use Rattle.gq_types.proofs.RequiredLemmas.{required_turn}
use Rattle.gq_types.proofs.required.required_among.Goals as goal

pub loop-number-preserved : goal.loop-number-preserved
loop-number-preserved c =
    required_turn (entries_view c.args.entries.now) c.args.numbers.now c.loop-number.number-index c.loop-number.required c.put_required.new.required c.loop-number.names c.put_required.new.names _ c.loop-number-test.true
    (rw c.inputs_at.ensures at c.in_ok-put_required.ensures.required) (rw c.inputs_at.ensures at c.in_ok-put_required.ensures.names) c.loop-number.invariant
