use Rattle.std.proofs.Common.{rules, ◌<◌, ◌≤◌, length}
use Rattle.gq_merging.specs.Helping.PairTables.{IsNumber}
use Rattle.gq_merging.proofs.LookLemmas.{gains_all, gains_more}
use Rattle.gq_merging.proofs.pairs.put_rights.Goals as goal

pub loop-right-preserved : goal.loop-right-preserved
loop-right-preserved c =
    let l : c.loop-right.right-index < length c.args.rights.now = search rules in
    gains_more (λ right. IsNumber (length c.args.look.rows.now) c.args.look.size c.args.left right) c.args.rights.now c.loop-right.right-index c.args.found.now.keys c.loop-right.found.keys c.put_number.new.found.keys
    l c.loop-right.invariant c.in_ok-put_number.ensures

pub returns : goal.returns
returns c =
    let past : length c.args.rights.now ≤ c.loop-right.right-index = search rules in
    gains_all (λ right. IsNumber (length c.args.look.rows.now) c.args.look.size c.args.left right) c.args.rights.now c.loop-right.right-index c.args.found.now.keys c.loop-right.found.keys past c.loop-right.invariant
