use Rattle.std.proofs.Common.{take}
use Rattle.gq_fault.specs.Adds.{AddsExactly}
use Rattle.gq_merging.specs.Helping.PairTables.{IsGiven, IsFaultOf}
use Rattle.gq_merging.specs.Helping.SearchTables.{IsWith}
use Rattle.gq_merging.specs.Helping.Views.{member_view, members_view, look_view}
use Rattle.gq_merging.proofs.cliques.add_faults_with.Given as goal

abbrev pub invariant-loop-member : goal.invariant-loop-member
invariant-loop-member l = AddsExactly (IsGiven (IsWith (member_view l.one) (members_view (take l.member-index l.members))) (IsFaultOf (look_view l.look))) l.initial.faults.items l.faults.items
