use Rattle.std.proofs.Common.{◌≡◌, ◌++◌, drop, map}
use Rattle.gq_coerce.proofs.parts.names_of.Given as goal

abbrev pub invariant-loop-part : goal.invariant-loop-part
invariant-loop-part l = l.names ++ map (λ p. p.name.now) (drop l.part-index l.parts) ≡ map (λ p. p.name.now) l.parts
