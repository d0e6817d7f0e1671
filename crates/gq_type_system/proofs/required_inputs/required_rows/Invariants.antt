use Rattle.std.proofs.Common.{◌≡◌, ◌++◌, drop, map}
use Rattle.gq_types.specs.Entries.{numbered_from}
use Rattle.gq_type_system.specs.Helping.EndlessInputsPlaces.{row_items, required_of, required_rows}
use Rattle.gq_types.specs.Look.{types_view}
use Rattle.gq_type_system.proofs.required_inputs.required_rows.Given as goal

abbrev pub invariant-loop-number : goal.invariant-loop-number
invariant-loop-number l =
    row_items l.rows.items ++ map (λ n. required_of (types_view l.types) n.number) (numbered_from l.number (drop l.number (types_view l.types)))
    ≡ required_rows (types_view l.types)
