use Rattle.std.proofs.Common.{◌≡◌, ◌++◌, drop}
use Rattle.gq_tree.specs.Views.{sels_view}
use Rattle.gq_mentions.specs.Mentions.{selection_mentions}
use Rattle.gq_mentions.specs.Views.{mentions_view}
use Rattle.gq_mentions.proofs.mentions.+selections.Given as goal

abbrev pub invariant-put_selections-loop-selection : goal.invariant-put_selections-loop-selection
invariant-put_selections-loop-selection l =
    mentions_view l.all.items ++ selection_mentions l.number (sels_view (drop l.selection-index l.selections)) ≡ mentions_view l.initial.all.items ++ selection_mentions l.number (sels_view l.selections)
