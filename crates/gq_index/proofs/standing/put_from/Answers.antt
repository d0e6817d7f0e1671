-- One part more is put in.
use Rattle.gq_index.proofs.SpreadPlaceLemmas.{standing_next}
use Rattle.gq_index.proofs.standing.put_from.Goals as goal

pub loop-number-preserved : goal.loop-number-preserved
loop-number-preserved c before =
    standing_next c.args.parts.now c.loop-number.number c.index-parts-number.result c.loop-number.all c.put_part.new.all c.loop-number.places.items c.put_part.new.places.items c.loop-number-test.true c.index-parts-number.is
    c.in_ok-put_part.ensures.stand c.in_ok-put_part.ensures.places (c.loop-number.invariant before)
