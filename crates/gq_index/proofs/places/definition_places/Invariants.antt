use Rattle.std.proofs.Common.{◌≡◌, ◌++◌, drop}
use Rattle.gq_index.specs.Helping.PlacedParts.{placed_view, places_at}
use Rattle.gq_index.proofs.places.definition_places.Given as goal

abbrev pub invariant-loop-one : goal.invariant-loop-one
invariant-loop-one l = l.all.items ++ places_at (placed_view (drop l.one-index l.parts)) ≡ places_at (placed_view l.parts)
