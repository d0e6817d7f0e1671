use Rattle.std.proofs.Common.{take}
use Rattle.gq_types.specs.Look.{types_view}
use Rattle.gq_merging.specs.Helping.GroupTables.{AreClasses, HaveClasses}
use Rattle.gq_merging.specs.Helping.Views.{members_view, rows_view}
use Rattle.gq_merging.specs.Helping.GroupViews.{classes_view, AreKeyed}
use Rattle.gq_merging.proofs.classes.groups_below.Given as goal

abbrev pub invariant-loop-member : goal.invariant-loop-member
invariant-loop-member l = record {
  keyed : AreKeyed l.classes;
  are : AreClasses (rows_view l.tables.rows.now) (classes_view l.classes);
  have : HaveClasses (types_view l.tables.types.now) (rows_view l.tables.rows.now) (classes_view l.classes) (members_view (take l.member-index l.members));
}
