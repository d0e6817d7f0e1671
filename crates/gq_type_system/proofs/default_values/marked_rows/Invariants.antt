use Rattle.std.proofs.Common.{◌≡◌, ◌++◌, drop, map}
use Rattle.gq_type_system.specs.Helping.DefaultValuesPlaces.{any_marked}
use Rattle.gq_type_system.specs.Helping.EndlessInputsPlaces.{row_items}
use Rattle.gq_type_system.proofs.default_values.marked_rows.Given as goal

abbrev pub invariant-loop-row : goal.invariant-loop-row
invariant-loop-row l = l.marked.items ++ map (any_marked l.marks) (row_items (drop l.row-index l.rows)) ≡ map (any_marked l.marks) (row_items l.rows)
