use Rattle.std.proofs.Common.{map, take}
use Rattle.gq_merging.specs.Helping.SearchTables.{AreMetInOne, Searched}
use Rattle.gq_merging.specs.Helping.SearchViews.{list_with}
use Rattle.gq_merging.specs.Helping.GroupViews.{groups_view}
use Rattle.gq_merging.specs.Helping.Views.{look_view}
use Rattle.gq_merging.proofs.cliques.look_at_lists.Given as goal

abbrev pub invariant-loop-list : goal.invariant-loop-list
invariant-loop-list l =
    Searched (look_view l.look) (AreMetInOne (map (list_with l.others) (take l.list-index l.lists))) l.initial.faults.items l.faults.items (groups_view l.initial.groups.items) (groups_view l.groups.items)
