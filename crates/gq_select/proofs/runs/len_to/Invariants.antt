use Rattle.std.proofs.Common.{◌≡◌, take, drop}
use Rattle.std.specs.Option.{option_map}
use Rattle.gq_tree.specs.Views.{sels_view}
use Rattle.gq_select.specs.Runs.{run_to}
use Rattle.gq_select.proofs.RunLemmas.{before}
use Rattle.gq_select.proofs.runs.len_to.Given as goal

abbrev pub invariant-loop-index : goal.invariant-loop-index
invariant-loop-index l = option_map (before (take l.index l.selections)) (run_to l.end (sels_view (drop l.index l.selections))) ≡ run_to l.end (sels_view l.selections)
