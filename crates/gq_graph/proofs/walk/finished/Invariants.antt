use Rattle.std.proofs.Common.{ℕ, ◌<◌, []}
use Rattle.std.specs.Prelude.{Contains}
use Rattle.gq_graph.specs.Helping.Finished.{Walk}
use Rattle.gq_graph.proofs.walk.finished.Given as goal

abbrev pub invariant-loop-number : goal.invariant-loop-number
invariant-loop-number l = record {
  walk : Walk l.rows l.passed.items l.finished.marks.items l.finished.numbers.items [];
  all : (n : ℕ) → n < l.number → Contains l.finished.numbers.items n;
}
