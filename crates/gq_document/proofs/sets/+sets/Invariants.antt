use Rattle.std.proofs.Common.{◌≡◌, ◌++◌, drop}
use Rattle.gq_tree.specs.Views.{sels_view}
use Rattle.gq_types.specs.Look.{types_view, text_of}
use Rattle.gq_document.specs.Sets.{sets_among}
use Rattle.gq_document.specs.SetViews.{sets_view}
use Rattle.gq_document.proofs.sets.+sets.Given as goal

abbrev pub invariant-put_sets_among-loop-selection : goal.invariant-put_sets_among-loop-selection
invariant-put_sets_among-loop-selection l =
    sets_view l.sets.items ++ sets_among (types_view l.types) (text_of l.parent) (sels_view (drop l.selection-index l.all)) ≡ sets_view l.initial.sets.items ++ sets_among (types_view l.types) (text_of l.parent) (sels_view l.all)
