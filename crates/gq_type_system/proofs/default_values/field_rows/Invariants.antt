use Rattle.std.proofs.Common.{◌≡◌, ◌++◌, drop, map}
use Rattle.gq_type_system.specs.Helping.DefaultValuesPlaces.{fields_view, field_leads}
use Rattle.gq_type_system.specs.Helping.EndlessInputsPlaces.{row_items}
use Rattle.gq_types.specs.Look.{types_view}
use Rattle.gq_type_system.proofs.default_values.field_rows.Given as goal

abbrev pub invariant-loop-field : goal.invariant-loop-field
invariant-loop-field l =
    row_items l.rows.items ++ map (field_leads (types_view l.types) (fields_view l.all.fields.items) (row_items l.all.numbers.items)) (fields_view (drop l.field-index l.field-items))
    ≡ map (field_leads (types_view l.types) (fields_view l.all.fields.items) (row_items l.all.numbers.items)) (fields_view l.field-items)
