use Rattle.std.proofs.Common.{◌≡◌, ◌++◌, drop, map}
use Rattle.gq_types.proofs.parts.add_names.Given as goal

abbrev pub invariant-loop-name : goal.invariant-loop-name
invariant-loop-name l = l.list ++ map (λ n. n.text) (drop l.name-index l.names) ≡ l.initial.list ++ map (λ n. n.text) l.names
