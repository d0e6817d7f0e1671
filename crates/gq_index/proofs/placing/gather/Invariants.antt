use Rattle.std.proofs.Common.{◌≡◌, ◌++◌, drop, map}
use Rattle.gq_index.specs.Helping.PlacedParts.{placed_view, placed_from}
use Rattle.gq_index.specs.Helping.Seats.{AreFound, parts_of_files}
use Rattle.gq_index.specs.Helping.SpreadPlaces.{AreStanding}
use Rattle.gq_index.specs.Views.{parts_kept}
use Rattle.gq_index.proofs.placing.gather.Given as goal

abbrev pub invariant-loop-number : goal.invariant-loop-number
invariant-loop-number l =
    (placed_view l.all.items ++ placed_from l.number (map (λ f. parts_kept f.now) (drop l.number l.files)) ≡ placed_from 0 (map (λ f. parts_kept f.now) l.files)) × AreFound (parts_of_files l.files) l.all.items
    × AreStanding (placed_view l.all.items) l.fragments l.spread_places.items
