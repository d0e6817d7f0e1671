use Rattle.std.proofs.Common.{◌≡◌, ◌++◌, drop}
use Rattle.gq_tree.specs.Views.{entries_view}
use Rattle.gq_types.specs.Look.{types_view}
use Rattle.gq_values.specs.LiteralFaults.{entry_names}
use Rattle.gq_values.specs.LiteralPlaces.{unknown_fields}
use Rattle.gq_values.proofs.literal_faults.add_unknown_fields.Given as goal

abbrev pub invariant-loop-field : goal.invariant-loop-field
invariant-loop-field l =
    l.faults.items ++ unknown_fields (types_view l.types) l.file l.type_name (entry_names (entries_view (drop l.field-index l.fields))) ≡ l.initial.faults.items ++ unknown_fields (types_view l.types) l.file l.type_name (entry_names (entries_view l.fields))
