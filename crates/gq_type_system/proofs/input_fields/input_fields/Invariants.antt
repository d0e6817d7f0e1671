use Rattle.std.proofs.Common.{◌≡◌, ◌++◌, flat_map, length}
use Rattle.gq_type_system.specs.Helping.DefaultValuesPlaces.{fields_view, fields_left, number_rows, all_fields, field_numbers}
use Rattle.gq_type_system.specs.Helping.EndlessInputsPlaces.{row_items}
use Rattle.gq_types.specs.Look.{types_view}
use Rattle.gq_type_system.proofs.input_fields.input_fields.Given as goal

abbrev pub invariant-loop-number : goal.invariant-loop-number
invariant-loop-number l = record {
  fields : fields_view l.fields.items ++ flat_map (λ fields. fields) (fields_left (types_view l.types) l.number) ≡ all_fields (types_view l.types);
  numbers : row_items l.numbers.items ++ number_rows (length (fields_view l.fields.items)) (fields_left (types_view l.types) l.number) ≡ field_numbers (types_view l.types);
}
