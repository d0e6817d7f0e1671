use Rattle.std.proofs.Common.{rules, ◌≡◌, ◌<◌, length, get_or}
use Rattle.gq_merging.specs.Helping.Views.{member_view, look_view}
use Rattle.gq_merging.proofs.CliqueLemmas.{with_more, with_none}
use Rattle.gq_merging.proofs.cliques.add_faults_with.Goals as goal

pub loop-member-init : goal.loop-member-init
loop-member-init c = with_none (look_view c.args.look) (member_view c.args.one.now) c.args.faults.now.items

pub loop-member-preserved : goal.loop-member-preserved
loop-member-preserved c =
    let l : c.loop-member.member-index < length c.args.members.now = search rules in
    let e : get_or c.args.members.now c.loop-member.member-index c.member-item.result ≡ c.member-item.result = search rules in
    with_more (look_view c.args.look) (member_view c.args.one.now) c.args.members.now c.loop-member.member-index c.member-item.result
    c.args.faults.now.items c.loop-member.faults.items c.add_fault_of.new.faults.items l e c.loop-member.invariant c.in_ok-add_fault_of.ensures
