use Rattle.std.proofs.Common.{take}
use Rattle.gq_names.specs.Helping.Places.{FindFirstPlaces}
use Rattle.gq_names.proofs.places.FirstPlaces.of.Given as goal

-- the places of the names before this one
abbrev pub invariant-loop-place : goal.invariant-loop-place
invariant-loop-place l = FindFirstPlaces l.places (take l.place l.names)
