use Rattle.std.proofs.Common.{◌≡◌, ◌++◌, drop}
use Rattle.gq_types.specs.Look.{types_view}
use Rattle.gq_values.specs.ExpectedTypes.{expected_view}
use Rattle.gq_values.specs.LiteralPlaces.{item_faults, value_faults}
use Rattle.gq_values.proofs.literal_faults.+literals.Given as goal

abbrev pub invariant-put_item_faults-loop-value : goal.invariant-put_item_faults-loop-value
invariant-put_item_faults-loop-value l =
    l.faults.items ++ item_faults (types_view l.types) l.file (expected_view l.reading) (drop l.value-index l.values) ≡ l.initial.faults.items ++ item_faults (types_view l.types) l.file (expected_view l.reading) l.values

abbrev pub invariant-add_value_faults-loop-field : goal.invariant-add_value_faults-loop-field
invariant-add_value_faults-loop-field l =
    l.faults.items ++ value_faults (types_view l.types) l.file (expected_view l.reading) (drop l.field-index l.fields) ≡ l.initial.faults.items ++ value_faults (types_view l.types) l.file (expected_view l.reading) l.fields
