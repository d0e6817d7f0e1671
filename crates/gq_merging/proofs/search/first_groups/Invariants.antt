use Rattle.gq_merging.specs.Helping.SearchTables.{AreFirst}
use Rattle.gq_merging.specs.Helping.GroupViews.{groups_view}
use Rattle.gq_merging.specs.Helping.Views.{rows_view}
use Rattle.gq_merging.proofs.search.first_groups.Given as goal

abbrev pub invariant-loop-number : goal.invariant-loop-number
invariant-loop-number l = AreFirst (rows_view l.rows) l.passed l.number (groups_view l.groups.items)
