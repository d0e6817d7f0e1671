use Rattle.std.proofs.Common.{rules, ◌<◌, ◌≤◌, length}
use Rattle.gq_merging.specs.Helping.PairTables.{IsNumber}
use Rattle.gq_merging.proofs.LookLemmas.{gains_all, gains_more}
use Rattle.gq_merging.proofs.pairs.put_lefts.Goals as goal

pub loop-left-preserved : goal.loop-left-preserved
loop-left-preserved c =
    let l : c.loop-left.left-index < length c.args.lefts.now = search rules in
    gains_more (λ left. IsNumber (length c.args.look.rows.now) c.args.look.size left c.args.right) c.args.lefts.now c.loop-left.left-index c.args.found.now.keys c.loop-left.found.keys c.put_number.new.found.keys
    l c.loop-left.invariant c.in_ok-put_number.ensures

pub returns : goal.returns
returns c =
    let past : length c.args.lefts.now ≤ c.loop-left.left-index = search rules in
    gains_all (λ left. IsNumber (length c.args.look.rows.now) c.args.look.size left c.args.right) c.args.lefts.now c.loop-left.left-index c.args.found.now.keys c.loop-left.found.keys past c.loop-left.invariant
