use Rattle.std.proofs.Common.{map}
use Rattle.gq_merging.specs.Helping.PairTables.{AreMet}
use Rattle.gq_merging.specs.Helping.SearchTables.{AreMetInOne}
use Rattle.gq_merging.specs.Helping.SearchViews.{list_with}
use Rattle.gq_merging.specs.Helping.GroupViews.{groups_view}
use Rattle.gq_merging.specs.Helping.Views.{members_view, look_view}
use Rattle.gq_merging.proofs.GrowLemmas.{searched_both}
use Rattle.gq_merging.proofs.cliques.look_at_others.Goals as goal

pub returns : goal.returns
returns c = λ t.
    let others = members_view c.args.others.now in
    searched_both (look_view c.args.look) (AreMet others others) (AreMetInOne (map (list_with c.args.others.now) c.args.lists.now))
    c.args.faults.now.items c.look_at_clique.new.faults.items c.look_at_lists.new.faults.items
    (groups_view c.args.groups.now.items) (groups_view c.look_at_clique.new.groups.items) (groups_view c.look_at_lists.new.groups.items)
    (c.in_ok-look_at_clique.ensures c.if-not-branch.false) (c.in_ok-done.ensures t)
