use Rattle.std.proofs.Common.{◌≡◌, ◌++◌, drop, map}
use Rattle.gq_query.specs.Helping.Placed.{occurrence_view}
use Rattle.gq_query.proofs.order.occurrences_of.Given as goal

abbrev pub invariant-loop-place : goal.invariant-loop-place
invariant-loop-place l = l.all.items ++ map occurrence_view (drop l.place-index l.places) ≡ map occurrence_view l.places
