use Rattle.std.proofs.Common.{◌≡◌, ◌++◌, drop}
use Rattle.std.specs.List.{flat_map}
use Rattle.gq_index.specs.Helping.SpreadPlaces.{numbers_at}
use Rattle.gq_index.proofs.spreads.numbers_of.Given as goal

abbrev pub invariant-loop-place : goal.invariant-loop-place
invariant-loop-place l = l.row.items ++ flat_map (numbers_at l.fragments) (drop l.place-index l.places) ≡ flat_map (numbers_at l.fragments) l.places
