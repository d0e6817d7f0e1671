use Rattle.gq_events.specs.Laws.{handings}
use Rattle.gq_desk.specs.Driving.{Chain}
use Rattle.gq_desk.proofs.driving.hand_over.Given as goal

-- those so far were handed on
abbrev pub invariant-loop-out : goal.invariant-loop-out
invariant-loop-out g l = record {
  handed : Chain g.H.Hands.takes l.fn.hands (handings l.yielded) l.hands;
}
