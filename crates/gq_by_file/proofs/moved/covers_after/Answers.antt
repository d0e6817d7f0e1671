-- One cover more.
use Rattle.gq_by_file.proofs.MovedLemmas.{cover_in}
use Rattle.gq_by_file.proofs.moved.covers_after.Goals as goal

pub loop-cover-preserved : goal.loop-cover-preserved
loop-cover-preserved c x y goes are =
    let one = c.cover-item.result in
    c.put_after.ensures x y goes (are one (cover_in c.args.covers.now c.loop-cover.cover-index one c.loop-cover-test.true c.cover-item.is)) (c.loop-cover.invariant x y goes are)
