use Rattle.std.proofs.Common.{rules, ◌≡◌, ◌<◌, ◌++◌, length, get_or, subst, sym, Contains}
use Rattle.std.proofs.lemmas.List.Elements.{Contains-get_or}
use Rattle.gq_merging.specs.Helping.PairTables.{AreMet}
use Rattle.gq_merging.specs.Helping.SearchTables.{IsClique, Searched}
use Rattle.gq_merging.specs.Helping.SearchViews.{list_with}
use Rattle.gq_merging.specs.Helping.GroupViews.{groups_view}
use Rattle.gq_merging.specs.Helping.Views.{members_view, look_view}
use Rattle.gq_merging.proofs.ClassSearch.{lists_more, no_lists}
use Rattle.gq_merging.proofs.cliques.look_at_lists.Goals as goal

pub loop-list-init : goal.loop-list-init
loop-list-init c = no_lists (look_view c.args.look) (list_with c.args.others.now) c.args.faults.now.items (groups_view c.args.groups.now.items)

pub look_at_list-requires : goal.look_at_list-requires
look_at_list-requires c =
    let l : c.loop-list.list-index < length c.args.lists.now = search rules in
    let there : Contains c.args.lists.now c.list-item.result = subst (Contains c.args.lists.now) (sym c.list-item.is) (Contains-get_or c.args.lists.now c.loop-list.list-index c.list-item.result l) in
    record { clique = subst (λ xs. IsClique (look_view c.args.look) (members_view xs ++ members_view c.args.others.now)) (sym c.deref.ensures.value) (c.requires.cliques c.list-item.result there) }

pub loop-list-preserved : goal.loop-list-preserved
loop-list-preserved c =
    let l : c.loop-list.list-index < length c.args.lists.now = search rules in
    let e : get_or c.args.lists.now c.loop-list.list-index c.list-item.result ≡ c.list-item.result = search rules in
    let others = members_view c.args.others.now in
    let here = subst (λ xs. Searched (look_view c.args.look) (AreMet (members_view xs ++ others) (members_view xs ++ others)) c.loop-list.faults.items c.look_at_list.new.faults.items
    (groups_view c.loop-list.groups.items) (groups_view c.look_at_list.new.groups.items)) c.deref.ensures.value (c.in_ok-look_at_list.ensures c.if-not-branch.false) in
    lists_more (look_view c.args.look) (list_with c.args.others.now) c.args.lists.now c.loop-list.list-index c.list-item.result
    c.args.faults.now.items c.loop-list.faults.items c.look_at_list.new.faults.items
    (groups_view c.args.groups.now.items) (groups_view c.loop-list.groups.items) (groups_view c.look_at_list.new.groups.items) l e c.loop-list.invariant here
