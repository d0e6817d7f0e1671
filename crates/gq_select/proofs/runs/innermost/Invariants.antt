use Rattle.std.proofs.Common.{◌≡◌, drop}
use Rattle.std.specs.Option.{option_map, option_or}
use Rattle.gq_document.specs.SetViews.{set_view, sets_view}
use Rattle.gq_select.specs.Runs.{innermost}
use Rattle.gq_select.proofs.runs.innermost.Given as goal

abbrev pub invariant-loop-set : goal.invariant-loop-set
invariant-loop-set l = option_or (innermost l.place.start l.place.end (sets_view (drop l.set-index l.sets))) (option_map set_view l.last) ≡ innermost l.place.start l.place.end (sets_view l.sets)
