use Rattle.std.proofs.Common.{◌≡◌, ◌++◌, ◌+◌, drop, map}
use Rattle.gq_index.proofs.group.further.Given as goal

abbrev pub invariant-loop-number : goal.invariant-loop-number
invariant-loop-number l = l.all.items ++ map (λ n. l.by + n) (drop l.number-index l.numbers) ≡ map (λ n. l.by + n) l.numbers
