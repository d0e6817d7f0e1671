use Rattle.std.proofs.Common.{◌≡◌, drop}
use Rattle.std.specs.Option.{option_map, option_or}
use Rattle.gq_completion.specs.Sets.{encloses}
use Rattle.gq_document.specs.SetViews.{set_view, sets_view}
use Rattle.gq_document.specs.Last.{find_last}
use Rattle.gq_completion.proofs.sets.last_enclosing.Given as goal

abbrev pub invariant-loop-set : goal.invariant-loop-set
invariant-loop-set l =
    option_or (find_last (encloses l.offset) (sets_view (drop l.set-index l.sets))) (option_map set_view l.last) ≡ find_last (encloses l.offset) (sets_view l.sets)
