use Rattle.std.proofs.Common.{take}
use Rattle.gq_index.specs.Helping.PlacedParts.{placed_view}
use Rattle.gq_index.specs.Helping.SpreadPlaces.{AreStanding}
use Rattle.gq_index.proofs.standing.put_from.Given as goal

abbrev pub invariant-loop-number : goal.invariant-loop-number
invariant-loop-number l = AreStanding (placed_view (take l.first l.parts)) l.initial.all l.initial.places.items → AreStanding (placed_view (take l.number l.parts)) l.all l.places.items
