use Rattle.std.proofs.Common.{◌↔◌, ◌<◌, All, length, take}
use Rattle.gq_merging.specs.Helping.SetTables.{MemberOf}
use Rattle.gq_merging.specs.Helping.GroupTables.{IsOfGroup}
use Rattle.gq_merging.specs.Helping.SearchTables.{IsBelowOne}
use Rattle.gq_merging.specs.Helping.Views.{members_view, rows_view}
use Rattle.gq_merging.proofs.cliques.sets_below.Given as goal

abbrev pub invariant-loop-member : goal.invariant-loop-member
invariant-loop-member l = (m : MemberOf) → IsOfGroup (rows_view l.rows) l.group.items m ↔ IsBelowOne (rows_view l.rows) (members_view (take l.member-index l.members)) m
