use Rattle.std.proofs.Common.{◌≡◌, drop}
use Rattle.gq_document.specs.SetViews.{sets_view}
use Rattle.gq_select.specs.Runs.{find_run}
use Rattle.gq_select.proofs.runs.find_run.Given as goal

abbrev pub invariant-loop-set : goal.invariant-loop-set
invariant-loop-set l = find_run l.place.start l.place.end (sets_view (drop l.set-index l.sets)) ≡ find_run l.place.start l.place.end (sets_view l.sets)
