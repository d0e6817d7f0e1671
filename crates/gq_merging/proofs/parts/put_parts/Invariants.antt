use Rattle.std.proofs.Common.{ℕ, ◌↔◌, ◌⊎◌, Contains, take}
use Rattle.gq_merging.proofs.parts.put_parts.Given as goal

abbrev pub invariant-loop-fragment : goal.invariant-loop-fragment
invariant-loop-fragment l = (k : ℕ) → (Contains l.some.items k ⊎ Contains l.others.items k) ↔ Contains (take l.fragment-index l.fragments) k
