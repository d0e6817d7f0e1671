use Rattle.std.proofs.Common.{◌≡◌, drop}
use Rattle.gq_tree.specs.Views.{sels_view}
use Rattle.gq_select.specs.Runs.{run_in}
use Rattle.gq_select.proofs.runs.run_in.Given as goal

abbrev pub invariant-loop-index : goal.invariant-loop-index
invariant-loop-index l = run_in l.place.start l.place.end (sels_view (drop l.index l.selections)) ≡ run_in l.place.start l.place.end (sels_view l.selections)
