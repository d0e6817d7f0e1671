use Rattle.std.proofs.Common.{rules, ◌≡◌, ◌<◌, length, get_or}
use Rattle.gq_merging.specs.Helping.NameTables.{by_name_view}
use Rattle.gq_merging.specs.Helping.Views.{look_view}
use Rattle.gq_merging.proofs.LookLemmas.{look_keyed_more}
use Rattle.gq_merging.proofs.faults.look_among_keyed.Goals as goal

pub loop-member-preserved : goal.loop-member-preserved
loop-member-preserved c =
    let l : c.loop-member.member-index < length c.args.left.now = search rules in
    let e : get_or c.args.left.now c.loop-member.member-index c.member-item.result ≡ c.member-item.result = search rules in
    look_keyed_more (look_view c.args.look) (by_name_view c.args.right.now) c.args.left.now c.loop-member.member-index c.member-item.result
    c.args.faults.now.items c.loop-member.faults.items c.look_by_key.new.faults.items c.args.found.now.keys c.loop-member.found.keys c.look_by_key.new.found.keys
    l e c.loop-member.invariant c.in_ok-look_by_key.ensures
