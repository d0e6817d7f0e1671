use Rattle.std.proofs.Common.{map, take}
use Rattle.gq_merging.specs.Helping.SearchTables.{Searched}
use Rattle.gq_merging.specs.Helping.KeptTables.{AreMetBesideOne}
use Rattle.gq_merging.specs.Helping.NameTables.{by_name_view}
use Rattle.gq_merging.specs.Helping.GroupViews.{groups_view}
use Rattle.gq_merging.specs.Helping.Views.{members_view, look_view}
use Rattle.gq_merging.proofs.kept.look_at_besides.Given as goal

abbrev pub invariant-loop-list : goal.invariant-loop-list
invariant-loop-list l =
    Searched (look_view l.look) (AreMetBesideOne (map (λ list. members_view list.items) (take l.list-index l.lists)) (by_name_view l.table)) l.initial.faults.items l.faults.items (groups_view l.initial.groups.items) (groups_view l.groups.items)
