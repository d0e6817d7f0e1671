use Rattle.gq_types.specs.Look.{types_view}
use Rattle.gq_merging.specs.Helping.GroupTables.{AreTested, ArePassed}
use Rattle.gq_merging.specs.Helping.Views.{rows_view}
use Rattle.gq_merging.specs.Helping.GroupViews.{groups_view}
use Rattle.gq_merging.proofs.groups.mark_with_spreads.Given as goal

abbrev pub invariant-loop-fragment : goal.invariant-loop-fragment
invariant-loop-fragment l = record {
  tested : AreTested (types_view l.tables.types.now) (rows_view l.tables.rows.now) l.marks.items;
  passed : ArePassed (types_view l.tables.types.now) (rows_view l.tables.rows.now) (groups_view l.groups.items);
}
