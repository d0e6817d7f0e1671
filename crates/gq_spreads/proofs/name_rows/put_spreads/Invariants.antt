use Rattle.std.proofs.Common.{◌≡◌, ◌++◌, drop, flat_map}
use Rattle.gq_document.specs.Definitions.{fragments_view}
use Rattle.gq_spreads.specs.Helping.NameRows.{spreads_at}
use Rattle.gq_spreads.proofs.name_rows.put_spreads.Given as goal

abbrev pub invariant-loop-place : goal.invariant-loop-place
invariant-loop-place l =
    l.row.items ++ flat_map (spreads_at l.names.names.items (fragments_view l.fragments)) (drop l.place-index l.places) ≡ l.initial.row.items ++ flat_map (spreads_at l.names.names.items (fragments_view l.fragments)) l.places
