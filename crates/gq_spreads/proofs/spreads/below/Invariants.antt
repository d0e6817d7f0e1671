use Rattle.std.proofs.Common.{◌≡◌, ◌++◌, drop}
use Rattle.std.specs.Prelude.{filter}
use Rattle.std.specs.Bool.{nat_lt}
use Rattle.gq_spreads.proofs.spreads.below.Given as goal

abbrev pub invariant-loop-number : goal.invariant-loop-number
invariant-loop-number l = l.all.items ++ filter (λ n. nat_lt n l.count) (drop l.number-index l.numbers) ≡ filter (λ n. nat_lt n l.count) l.numbers
