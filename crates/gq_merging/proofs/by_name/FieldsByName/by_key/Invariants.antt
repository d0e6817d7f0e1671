use Rattle.std.proofs.Common.{take}
use Rattle.gq_merging.specs.Helping.NameTables.{AreByKey, by_name_view}
use Rattle.gq_merging.specs.Helping.Views.{members_view}
use Rattle.gq_merging.proofs.by_name.FieldsByName.by_key.Given as goal

abbrev pub invariant-loop-member : goal.invariant-loop-member
invariant-loop-member l = AreByKey (by_name_view l.table) (members_view (take l.member-index l.members))
