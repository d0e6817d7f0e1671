use Rattle.std.proofs.Common.{rules, ◌≡◌, ◌<◌, length, get_or}
use Rattle.gq_merging.specs.Helping.Views.{members_view, look_view}
use Rattle.gq_merging.proofs.LookLemmas.{look_left_more}
use Rattle.gq_merging.proofs.faults.look_among.Goals as goal

pub loop-member-preserved : goal.loop-member-preserved
loop-member-preserved c =
    let l : c.loop-member.member-index < length c.args.left.now = search rules in
    let e : get_or c.args.left.now c.loop-member.member-index c.member-item.result ≡ c.member-item.result = search rules in
    look_left_more (look_view c.args.look) (members_view c.args.right.now) c.args.left.now c.loop-member.member-index c.member-item.result
    c.args.faults.now.items c.loop-member.faults.items c.look_with.new.faults.items c.args.found.now.keys c.loop-member.found.keys c.look_with.new.found.keys
    l e c.loop-member.invariant c.in_ok-look_with.ensures
