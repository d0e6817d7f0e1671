use Rattle.std.proofs.Common.{◌≡◌, ◌<◌, length}
use Rattle.std.specs.Prelude.{All}
use Rattle.gq_merging.proofs.passed.put_roots_of_cycles.Given as goal

abbrev pub invariant-loop-number : goal.invariant-loop-number
invariant-loop-number l = (length l.covered.items ≡ length l.spreads) × All (λ n. n < length l.spreads) l.roots.items
