use Rattle.std.proofs.Common.{ℕ, ◌<◌, Contains}
use Rattle.gq_merging.proofs.places.numbers_below.Given as goal

abbrev pub invariant-loop-number : goal.invariant-loop-number
invariant-loop-number l = record {
  within : (j : ℕ) → Contains l.numbers.items j → j < l.count;
  each : (j : ℕ) → j < l.number → Contains l.numbers.items j;
}
