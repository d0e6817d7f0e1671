use Rattle.std.proofs.Common.{◌≡◌, ◌++◌, drop, map}
use Rattle.gq_query.specs.Helping.Placed.{place_view}
use Rattle.gq_query.proofs.order.places_of.Given as goal

abbrev pub invariant-loop-one : goal.invariant-loop-one
invariant-loop-one l = l.places.items ++ map place_view (drop l.one-index l.all) ≡ map place_view l.all
