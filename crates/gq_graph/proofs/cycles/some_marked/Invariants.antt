use Rattle.std.proofs.Common.{ℕ, ◌≡◌, ◌<◌, get_or, false}
use Rattle.gq_graph.proofs.cycles.some_marked.Given as goal

abbrev pub invariant-loop-number : goal.invariant-loop-number
invariant-loop-number l = (k : ℕ) → k < l.number-index → get_or l.marks (get_or l.numbers k 0) false ≡ false
