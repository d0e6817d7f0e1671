use Rattle.std.proofs.Common.{◌≡◌, None, drop}
use Rattle.std.specs.Option.{option_map}
use Rattle.gq_document.specs.SetViews.{sets_view}
use Rattle.gq_select.specs.Meant.{begins_last, is_meant, standing}
use Rattle.gq_select.specs.Views.{is_of_kind, standing_view}
use Rattle.gq_select.proofs.selecting.meant.Given as goal

abbrev pub invariant-loop-set : goal.invariant-loop-set
invariant-loop-set l =
    begins_last (is_meant (is_of_kind l.kind) l.range) (option_map standing_view l.best) (standing (sets_view (drop l.set-index l.sets)))
    ≡ begins_last (is_meant (is_of_kind l.kind) l.range) None (standing (sets_view l.sets))
