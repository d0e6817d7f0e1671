use Rattle.std.proofs.Common.{◌≡◌, ◌++◌, drop}
use Rattle.gq_tree.specs.Views.{sels_view}
use Rattle.gq_types.specs.Look.{types_view, text_of}
use Rattle.gq_document.specs.Selections.{selected_among}
use Rattle.gq_fields.specs.Helping.FieldFaultsPlaces.{selections_faults}
use Rattle.gq_fields.proofs.field_faults.+selections.Given as goal

abbrev pub invariant-add_faults_among-loop-selection : goal.invariant-add_faults_among-loop-selection
invariant-add_faults_among-loop-selection l =
    l.faults.items ++ selections_faults (types_view l.types) (selected_among (types_view l.types) l.file (text_of l.parent) (sels_view (drop l.selection-index l.all)))
    ≡ l.initial.faults.items ++ selections_faults (types_view l.types) (selected_among (types_view l.types) l.file (text_of l.parent) (sels_view l.all))
