use Rattle.std.proofs.Common.{◌≡◌, ◌++◌, drop}
use Rattle.gq_tree.specs.Views.{sels_view}
use Rattle.gq_types.specs.Look.{types_view, text_of}
use Rattle.gq_document.specs.Selections.{selected_among}
use Rattle.gq_document.specs.Views.{selections_view}
use Rattle.gq_fragments.specs.Helping.FragmentPlaces.{of_fragments}
use Rattle.gq_fragments.proofs.selections.+selections.Given as goal

abbrev pub invariant-put_of_fragments_among-loop-selection : goal.invariant-put_of_fragments_among-loop-selection
invariant-put_of_fragments_among-loop-selection l =
    selections_view l.all.items ++ of_fragments (selected_among (types_view l.types) l.file (text_of l.parent) (sels_view (drop l.selection-index l.selections)))
    ≡ selections_view l.initial.all.items ++ of_fragments (selected_among (types_view l.types) l.file (text_of l.parent) (sels_view l.selections))
