use Rattle.std.proofs.Common.{◌≡◌, ◌++◌, drop, map}
use Rattle.gq_tree.specs.Views.{input_view}
use Rattle.gq_type_system.specs.Helping.EndlessInputsPlaces.{required_numbers}
use Rattle.gq_types.specs.Look.{types_view}
use Rattle.gq_type_system.proofs.required_inputs.put_all_required.Given as goal

abbrev pub invariant-loop-field : goal.invariant-loop-field
invariant-loop-field l =
    l.row.items ++ required_numbers (types_view l.types) l.type_name (map input_view (drop l.field-index l.fields))
    ≡ l.initial.row.items ++ required_numbers (types_view l.types) l.type_name (map input_view l.fields)
