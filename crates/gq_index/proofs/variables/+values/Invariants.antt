use Rattle.std.proofs.Common.{◌≡◌, ◌++◌, drop}
use Rattle.std.specs.List.{flat_map}
use Rattle.gq_tree.specs.Forest.{labels}
use Rattle.gq_tree.specs.Names.{names_at}
use Rattle.gq_tree.specs.Views.{values_view, entries_view}
use Rattle.gq_index.specs.VariableNames.{part_variable}
use Rattle.gq_index.proofs.variables.+values.Given as goal

abbrev pub invariant-put_items-loop-value : goal.invariant-put_items-loop-value
invariant-put_items-loop-value l =
    names_at l.names.items ++ flat_map part_variable (labels (values_view (drop l.value-index l.values))) ≡ names_at l.initial.names.items ++ flat_map part_variable (labels (values_view l.values))

abbrev pub invariant-put_fields-loop-field : goal.invariant-put_fields-loop-field
invariant-put_fields-loop-field l =
    names_at l.names.items ++ flat_map part_variable (labels (entries_view (drop l.field-index l.fields))) ≡ names_at l.initial.names.items ++ flat_map part_variable (labels (entries_view l.fields))
