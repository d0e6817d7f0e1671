use Rattle.std.proofs.Common.{◌≡◌, ◌++◌, drop, map}
use Rattle.gq_types.proofs.parts.add_values.Given as goal

abbrev pub invariant-loop-value : goal.invariant-loop-value
invariant-loop-value l = l.list ++ map (λ v. v.name.text) (drop l.value-index l.values) ≡ l.initial.list ++ map (λ v. v.name.text) l.values
