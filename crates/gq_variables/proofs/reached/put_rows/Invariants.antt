use Rattle.std.proofs.Common.{◌≡◌, ◌++◌, drop, flat_map}
use Rattle.gq_variables.specs.Helping.UsesPlaces.{row_at}
use Rattle.gq_variables.specs.Helping.Views.{uses_view, rows_view}
use Rattle.gq_variables.proofs.reached.put_rows.Given as goal

abbrev pub invariant-loop-number : goal.invariant-loop-number
invariant-loop-number l =
    uses_view l.uses.items ++ flat_map (row_at (rows_view l.rows)) (drop l.number-index l.numbers) ≡ uses_view l.initial.uses.items ++ flat_map (row_at (rows_view l.rows)) l.numbers
