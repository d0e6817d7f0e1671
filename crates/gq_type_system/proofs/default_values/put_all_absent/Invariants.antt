use Rattle.std.proofs.Common.{◌≡◌, ◌++◌, drop, flat_map}
use Rattle.gq_type_system.specs.Helping.DefaultValuesPlaces.{fields_view, absent_number}
use Rattle.gq_types.specs.Look.{types_view}
use Rattle.gq_type_system.proofs.default_values.put_all_absent.Given as goal

abbrev pub invariant-loop-number : goal.invariant-loop-number
invariant-loop-number l =
    l.row.items ++ flat_map (absent_number (types_view l.types) (fields_view l.fields) l.names) (drop l.number-index l.numbers)
    ≡ l.initial.row.items ++ flat_map (absent_number (types_view l.types) (fields_view l.fields) l.names) l.numbers
