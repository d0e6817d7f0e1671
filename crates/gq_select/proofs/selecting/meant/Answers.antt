use Rattle.std.specs.Option.{option_map}
use Rattle.gq_document.specs.SetViews.{sets_view}
use Rattle.gq_select.specs.Meant.{is_meant, meant}
use Rattle.gq_select.specs.Views.{is_of_kind, standing_view}
use Rattle.gq_select.proofs.MeantLemmas.{meant_later}
use Rattle.gq_select.proofs.selecting.meant.Goals as goal

pub loop-set-preserved : goal.loop-set-preserved
loop-set-preserved c =
    meant_later (is_meant (is_of_kind c.args.kind) c.args.range) c.args.sets.now c.loop-set.set-index c.set-item.result (option_map standing_view c.loop-set.best) (option_map standing_view c.meant_in-best.result) (meant (is_of_kind c.args.kind) c.args.range (sets_view c.args.sets.now))
    c.loop-set-test.true c.set-item.is c.meant_in-best.ensures c.loop-set.invariant
