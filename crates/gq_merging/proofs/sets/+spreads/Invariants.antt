use Rattle.std.proofs.Common.{◌≡◌, ◌++◌, drop}
use Rattle.gq_tree.specs.Views.{sels_view}
use Rattle.gq_merging.specs.Helping.HubTables.{spreads_in}
use Rattle.gq_merging.specs.Helping.Views.{all_spreads_at}
use Rattle.gq_merging.proofs.sets.+spreads.Given as goal

abbrev pub invariant-put_spreads-loop-selection : goal.invariant-put_spreads-loop-selection
invariant-put_spreads-loop-selection l =
    all_spreads_at l.spreads.items ++ spreads_in (sels_view (drop l.selection-index l.selections)) ≡ all_spreads_at l.initial.spreads.items ++ spreads_in (sels_view l.selections)
