use Rattle.std.proofs.Common.{◌≡◌, ◌++◌, drop}
use Rattle.gq_tree.specs.Views.{entries_view}
use Rattle.gq_values.specs.LiteralFaults.{entry_names}
use Rattle.gq_values.specs.LiteralPlaces.{texts, repeated_fields}
use Rattle.gq_values.proofs.literal_faults.add_repeated_fields.Given as goal

abbrev pub invariant-loop-field : goal.invariant-loop-field
invariant-loop-field l = record {
  found : l.faults.items ++ repeated_fields l.file l.names (entry_names (entries_view (drop l.field-index l.fields))) ≡ l.initial.faults.items ++ repeated_fields l.file l.initial.names (entry_names (entries_view l.fields));
  names : l.names ++ texts (entry_names (entries_view (drop l.field-index l.fields))) ≡ l.initial.names ++ texts (entry_names (entries_view l.fields));
}
