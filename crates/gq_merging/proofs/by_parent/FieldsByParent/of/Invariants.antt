use Rattle.std.proofs.Common.{take}
use Rattle.gq_types.specs.Look.{types_view}
use Rattle.gq_merging.specs.Helping.NameTables.{by_name_view}
use Rattle.gq_merging.specs.Helping.ParentTables.{AreByParent}
use Rattle.gq_merging.specs.Helping.Views.{members_view}
use Rattle.gq_merging.proofs.by_parent.FieldsByParent.of.Given as goal

abbrev pub invariant-loop-member : goal.invariant-loop-member
invariant-loop-member l = AreByParent (types_view l.types) (by_name_view l.table.of_objects) (members_view l.table.of_others.items) (members_view (take l.member-index l.members))
