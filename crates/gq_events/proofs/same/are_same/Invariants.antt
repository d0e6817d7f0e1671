use Rattle.gq_events.proofs.Agreeing.{Decides}
use Rattle.gq_events.proofs.same.are_same.Given as goal

abbrev pub invariant-loop-i : goal.invariant-loop-i
invariant-loop-i l = Decides l.texts l.documents l.i
