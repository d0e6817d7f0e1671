use Rattle.std.proofs.Common.{ℕ, ◌+◌, ◌*◌, ◌++◌, ◌∷◌, [], length}
use Rattle.std.specs.Prelude.{Contains}
use Rattle.gq_graph.specs.Helping.Finished.{Walk, entries_left}
use Rattle.gq_graph.proofs.walk.walk.Given as goal

abbrev pub invariant-loop-top : goal.invariant-loop-top
invariant-loop-top l = record {
  walk : Walk l.rows l.passed.items l.finished.marks.items l.finished.numbers.items l.stack.items;
  kept : (n : ℕ) → Contains (l.fn.finished.numbers.items ++ l.number ∷ []) n → Contains (l.finished.numbers.items ++ l.stack.items) n;
}

abbrev pub decreases-loop-top : goal.decreases-loop-top
decreases-loop-top l = 2 * entries_left l.rows l.passed.items + length l.stack.items
