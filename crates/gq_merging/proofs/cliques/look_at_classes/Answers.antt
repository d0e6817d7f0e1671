use Rattle.std.proofs.Common.{rules, ◌≡◌, ◌<◌, length, get_or, subst}
use Rattle.gq_merging.specs.Helping.PairTables.{AreMet}
use Rattle.gq_merging.specs.Helping.SearchTables.{Searched}
use Rattle.gq_merging.specs.Helping.GroupViews.{groups_view}
use Rattle.gq_merging.specs.Helping.Views.{members_view, look_view}
use Rattle.gq_merging.proofs.ClassSearch.{seen, lists_more, no_lists}
use Rattle.gq_merging.proofs.cliques.look_at_classes.Goals as goal

pub loop-list-init : goal.loop-list-init
loop-list-init c = no_lists (look_view c.args.look) seen c.args.faults.now.items (groups_view c.args.groups.now.items)

pub loop-list-preserved : goal.loop-list-preserved
loop-list-preserved c =
    let l : c.loop-list.list-index < length c.args.lists.now = search rules in
    let e : get_or c.args.lists.now c.loop-list.list-index c.list-item.result ≡ c.list-item.result = search rules in
    let here = subst (λ xs. Searched (look_view c.args.look) (AreMet (members_view xs) (members_view xs)) c.loop-list.faults.items c.look_at_class.new.faults.items
    (groups_view c.loop-list.groups.items) (groups_view c.look_at_class.new.groups.items)) c.deref.ensures.value (c.in_ok-look_at_class.ensures c.if-not-branch.false) in
    lists_more (look_view c.args.look) seen c.args.lists.now c.loop-list.list-index c.list-item.result
    c.args.faults.now.items c.loop-list.faults.items c.look_at_class.new.faults.items
    (groups_view c.args.groups.now.items) (groups_view c.loop-list.groups.items) (groups_view c.look_at_class.new.groups.items) l e c.loop-list.invariant here
