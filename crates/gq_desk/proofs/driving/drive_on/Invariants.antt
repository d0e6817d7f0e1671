use Rattle.std.proofs.Common.{◌≡◌, ℕ, ◌+◌, ◌^◌, ◌≤◌, List, None, false}
use Rattle.std.specs.Prelude.{IfSome}
use Rattle.gq_events.specs.Rules.{Turn}
use Rattle.gq_events.specs.Machine.{start, reached}
use Rattle.gq_desk.specs.Standing.{StandsFor}
use Rattle.gq_desk.proofs.Drives.{Going, Takes}
use Rattle.gq_desk.proofs.driving.drive_on.Given as goal

-- the events so far were driven
abbrev pub invariant-loop-taken : goal.invariant-loop-taken
invariant-loop-taken g l = record {
  can : g.I.Iterator.can_next l.events;
  next : IfSome l.desk (λ s. s.jobs.next ≤ 2 ^ 61 + l._taken);
  works : g.W.Sink.failed l.writer ≡ false;
  stands : l.desk ≡ None → ⊥;
  taken : Takes g.I.Iterator.next_gives l.fn.events l._taken l.events;
  going : (workers : ℕ) (earlier : List Turn) → StandsFor workers earlier l.fn.desk
      → Going g.I.Iterator.next_gives g.H.Hands.takes (reached (start workers) earlier) l.fn.events l.fn.hands (g.W.Sink.held l.fn.writer) l._taken l.events l.desk l.hands (g.W.Sink.held l.writer);
}
