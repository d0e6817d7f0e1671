use Rattle.std.proofs.Common.{◌≡◌, ℕ, List, Option, drop}
use Rattle.gq_tree.specs.Views.{sels_view}
use Rattle.gq_types.specs.Entries.{Text, EntryOf}
use Rattle.gq_document.specs.Selections.{selected_among}
use Rattle.gq_fragments.specs.Helping.FragmentPlaces.{of_fragments}
use Rattle.gq_fragments.proofs.selections.+fields.Given as goal

abbrev pub invariant-are_fields-loop-selection : goal.invariant-are_fields-loop-selection
invariant-are_fields-loop-selection l = (es : List EntryOf) (file : ℕ) (parent : Option Text) →
    of_fragments (selected_among es file parent (sels_view l.all)) ≡ of_fragments (selected_among es file parent (sels_view (drop l.selection-index l.all)))
