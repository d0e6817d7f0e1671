use Rattle.std.proofs.Common.{rules, ◌<◌, length, get_or, refl}
use Rattle.gq_merging.proofs.StartLemmas.{sets_more}
use Rattle.gq_merging.proofs.passed.put_marks.Goals as goal

pub loop-number-preserved : goal.loop-number-preserved
loop-number-preserved c =
    let l : c.loop-number.number-index < length c.args.numbers.now = search rules in
    let within : get_or c.args.numbers.now c.loop-number.number-index 0 < length c.loop-number.marks.items = search rules in
    sets_more c.args.numbers.now c.loop-number.number-index (get_or c.args.numbers.now c.loop-number.number-index 0) c.args.mark c.args.marks.now.items c.loop-number.marks.items _ l refl within
    c.loop-number.invariant refl
