use Rattle.std.proofs.Common.{◌≡◌, take, Contains}
use Rattle.gq_merging.specs.Helping.SetTables.{MemberOf}
use Rattle.gq_merging.specs.Helping.Views.{field_at, members_view}
use Rattle.gq_merging.proofs.cliques.have_one_known_parent.Given as goal

abbrev pub invariant-loop-member : goal.invariant-loop-member
invariant-loop-member l = (m : MemberOf) → Contains (members_view (take l.member-index l.members)) m → m.field_at.parent ≡ (field_at l.first.it).parent
