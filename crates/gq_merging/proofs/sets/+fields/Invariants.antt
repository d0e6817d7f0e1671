use Rattle.std.proofs.Common.{◌≡◌, ◌++◌, drop}
use Rattle.gq_tree.specs.Views.{sels_view}
use Rattle.gq_types.specs.Look.{text_of}
use Rattle.gq_merging.specs.Helping.SetTables.{own_fields}
use Rattle.gq_merging.specs.Helping.Views.{fields_at}
use Rattle.gq_merging.proofs.sets.+fields.Given as goal

abbrev pub invariant-put_fields-loop-selection : goal.invariant-put_fields-loop-selection
invariant-put_fields-loop-selection l =
    fields_at l.fields.items ++ own_fields l.file (text_of l.parent) (sels_view (drop l.selection-index l.selections)) ≡ fields_at l.initial.fields.items ++ own_fields l.file (text_of l.parent) (sels_view l.selections)
