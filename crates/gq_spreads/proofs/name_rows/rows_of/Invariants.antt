use Rattle.std.proofs.Common.{◌≡◌, ◌++◌, drop, map}
use Rattle.std.specs.List.{enumerate_from}
use Rattle.gq_document.specs.Definitions.{fragments_view}
use Rattle.gq_spreads.specs.Helping.NameRows.{row_at}
use Rattle.gq_spreads.specs.Helping.Rows.{row_items}
use Rattle.gq_spreads.proofs.name_rows.rows_of.Given as goal

abbrev pub invariant-loop-place : goal.invariant-loop-place
invariant-loop-place l =
    row_items l.rows.items ++ map (row_at l.names.names.items (fragments_view l.fragments)) (enumerate_from l.place (drop l.place l.names.names.items))
    ≡ map (row_at l.names.names.items (fragments_view l.fragments)) (enumerate_from 0 l.names.names.items)
