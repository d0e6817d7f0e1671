use Rattle.std.proofs.Common.{rules, ◌≡◌, ◌<◌, length, get_or, subst}
use Rattle.gq_merging.specs.Helping.SearchTables.{Searched}
use Rattle.gq_merging.specs.Helping.KeptTables.{AreMetBeside}
use Rattle.gq_merging.specs.Helping.NameTables.{by_name_view}
use Rattle.gq_merging.specs.Helping.GroupViews.{groups_view}
use Rattle.gq_merging.specs.Helping.Views.{members_view, look_view}
use Rattle.gq_merging.proofs.KeptLemmas.{lists_more_beside, no_lists_beside}
use Rattle.gq_merging.proofs.kept.look_at_besides.Goals as goal

pub loop-list-init : goal.loop-list-init
loop-list-init c = no_lists_beside (look_view c.args.look) (by_name_view c.args.table.now) c.args.faults.now.items (groups_view c.args.groups.now.items)

pub loop-list-preserved : goal.loop-list-preserved
loop-list-preserved c =
    let l : c.loop-list.list-index < length c.args.lists.now = search rules in
    let e : get_or c.args.lists.now c.loop-list.list-index c.list-item.result ≡ c.list-item.result = search rules in
    let here = subst (λ xs. Searched (look_view c.args.look) (AreMetBeside (members_view xs) (by_name_view c.args.table.now)) c.loop-list.faults.items c.look_at_beside.new.faults.items
    (groups_view c.loop-list.groups.items) (groups_view c.look_at_beside.new.groups.items)) c.deref.ensures.value (c.in_ok-look_at_beside.ensures c.if-not-branch.false) in
    lists_more_beside (look_view c.args.look) (by_name_view c.args.table.now) c.args.lists.now c.loop-list.list-index c.list-item.result
    c.args.faults.now.items c.loop-list.faults.items c.look_at_beside.new.faults.items
    (groups_view c.args.groups.now.items) (groups_view c.loop-list.groups.items) (groups_view c.look_at_beside.new.groups.items) l e c.loop-list.invariant here
