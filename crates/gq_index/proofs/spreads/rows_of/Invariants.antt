use Rattle.std.proofs.Common.{◌≡◌, ◌++◌, drop, map}
use Rattle.gq_index.specs.Helping.SpreadNumbers.{rows_under}
use Rattle.gq_index.specs.Helping.SpreadPlaces.{ArePlaces, all_spreads}
use Rattle.gq_index.specs.Helping.PlacedParts.{placed_view}
use Rattle.gq_index.specs.Helping.StandingParts.{numbers_under_names}
use Rattle.gq_index.proofs.spreads.rows_of.Given as goal

-- the rows so far, and the places that are left
abbrev pub invariant-loop-one : goal.invariant-loop-one
invariant-loop-one l =
    (map (λ v. v.items) l.rows.items ++ rows_under (numbers_under_names l.fragments) (placed_view (drop l.one-index l.parts)) ≡ rows_under (numbers_under_names l.fragments) (placed_view l.parts))
    × ArePlaces l.fragments.names (all_spreads (placed_view (drop l.one-index l.parts))) l.rest
