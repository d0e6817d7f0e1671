use Rattle.std.proofs.Common.{◌≡◌, ◌++◌, drop, map}
use Rattle.gq_type_system.specs.Helping.DefaultValuesPlaces.{fields_view, all_with_defaults}
use Rattle.gq_type_system.specs.Helping.EndlessInputsPlaces.{row_items}
use Rattle.gq_types.specs.Look.{types_view}
use Rattle.gq_type_system.proofs.default_values.put_type_rows.Given as goal

abbrev pub invariant-loop-numbers : goal.invariant-loop-numbers
invariant-loop-numbers l =
    row_items l.rows.items ++ map (all_with_defaults (types_view l.types) (fields_view l.all.fields.items)) (row_items (drop l.numbers-index l.numbers-items))
    ≡ row_items l.initial.rows.items ++ map (all_with_defaults (types_view l.types) (fields_view l.all.fields.items)) (row_items l.numbers-items)
