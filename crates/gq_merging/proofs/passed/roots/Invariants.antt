use Rattle.std.proofs.Common.{◌<◌, length}
use Rattle.std.specs.Prelude.{All}
use Rattle.gq_merging.proofs.passed.roots.Given as goal

abbrev pub invariant-loop-number : goal.invariant-loop-number
invariant-loop-number l = All (λ n. n < length l.marks) l.numbers.items
