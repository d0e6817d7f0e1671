use Rattle.gq_types.specs.Look.{types_view}
use Rattle.gq_merging.specs.Helping.GroupTables.{AreTested, ArePassed}
use Rattle.gq_merging.specs.Helping.Views.{rows_view}
use Rattle.gq_merging.specs.Helping.GroupViews.{groups_view}
use Rattle.gq_merging.proofs.groups.mark_each.Given as goal

abbrev pub invariant-loop-number : goal.invariant-loop-number
invariant-loop-number l = record {
  tested : AreTested (types_view l.tables.types.now) (rows_view l.tables.rows.now) l.marks.items;
  passed : ArePassed (types_view l.tables.types.now) (rows_view l.tables.rows.now) (groups_view l.groups.items);
}
