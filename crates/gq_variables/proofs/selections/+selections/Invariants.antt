use Rattle.std.proofs.Common.{◌≡◌, ◌++◌, drop}
use Rattle.gq_tree.specs.Views.{sels_view}
use Rattle.gq_types.specs.Look.{types_view, text_of}
use Rattle.gq_document.specs.Selections.{selected_among}
use Rattle.gq_variables.specs.Helping.UsesPlaces.{selection_uses}
use Rattle.gq_variables.specs.Helping.Views.{uses_view}
use Rattle.gq_variables.proofs.selections.+selections.Given as goal

abbrev pub invariant-put_uses_among-loop-selection : goal.invariant-put_uses_among-loop-selection
invariant-put_uses_among-loop-selection l =
    uses_view l.uses.items ++ selection_uses (types_view l.types) (selected_among (types_view l.types) l.file (text_of l.parent) (sels_view (drop l.selection-index l.all)))
    ≡ uses_view l.initial.uses.items ++ selection_uses (types_view l.types) (selected_among (types_view l.types) l.file (text_of l.parent) (sels_view l.all))
