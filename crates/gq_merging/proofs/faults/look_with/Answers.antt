use Rattle.std.proofs.Common.{rules, ◌≡◌, ◌<◌, ◌∷◌, [], length, get_or}
use Rattle.gq_merging.specs.Helping.Views.{member_view, look_view}
use Rattle.gq_merging.proofs.LookLemmas.{look_right_more}
use Rattle.gq_merging.proofs.faults.look_with.Goals as goal

pub loop-member-preserved : goal.loop-member-preserved
loop-member-preserved c =
    let l : c.loop-member.member-index < length c.args.right.now = search rules in
    let e : get_or c.args.right.now c.loop-member.member-index c.member-item.result ≡ c.member-item.result = search rules in
    look_right_more (look_view c.args.look) (member_view c.args.left.now ∷ []) c.args.right.now c.loop-member.member-index c.member-item.result
    c.args.faults.now.items c.loop-member.faults.items c.look_at.new.faults.items c.args.found.now.keys c.loop-member.found.keys c.look_at.new.found.keys
    l e c.loop-member.invariant c.in_ok-look_at.ensures
