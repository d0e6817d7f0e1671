use Rattle.std.proofs.Common.{◌≡◌, drop}
use Rattle.gq_tree.specs.Views.{sels_view}
use Rattle.gq_completion.specs.Sets.{is_within_one}
use Rattle.gq_completion.proofs.sets.is_within_one.Given as goal

abbrev pub invariant-loop-selection : goal.invariant-loop-selection
invariant-loop-selection l = is_within_one l.place (sels_view (drop l.selection-index l.selections)) ≡ is_within_one l.place (sels_view l.selections)
