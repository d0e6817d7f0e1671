use Rattle.std.proofs.Common.{◌≡◌, length}
use Rattle.gq_merging.proofs.passed.named_rows.Given as goal

abbrev pub invariant-loop-numbers : goal.invariant-loop-numbers
invariant-loop-numbers l = length l.named.items ≡ length l.spreads
