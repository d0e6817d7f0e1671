use Rattle.std.proofs.Common.{take}
use Rattle.gq_merging.specs.Helping.PairTables.{AreMet, Looked}
use Rattle.gq_merging.specs.Helping.Views.{members_view, look_view}
use Rattle.gq_merging.proofs.faults.look_among.Given as goal

abbrev pub invariant-loop-member : goal.invariant-loop-member
invariant-loop-member l =
    Looked (look_view l.look) (AreMet (members_view (take l.member-index l.left)) (members_view l.right)) l.initial.faults.items l.faults.items l.initial.found.keys l.found.keys
