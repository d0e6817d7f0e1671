use Rattle.std.proofs.Common.{◌≡◌, ◌++◌, drop, map}
use Rattle.std.specs.List.{enumerate_from}
use Rattle.gq_names.specs.Repeats.{repeated, repeated_after}
use Rattle.gq_names.proofs.repeated.repeated_names.Given as goal

-- the places found, and those that the rest of the names adds
abbrev pub invariant-loop-place : goal.invariant-loop-place
invariant-loop-place l = l.places.items ++ map (λ p. p.0) (repeated_after (λ p. p.1.now) l.seen (enumerate_from l.place (drop l.place l.names))) ≡ map (λ p. p.0) (repeated (λ p. p.1.now) (enumerate_from 0 l.names))
