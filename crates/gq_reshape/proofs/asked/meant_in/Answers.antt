use Rattle.std.proofs.Common.{◌∙◌, ap}
use Rattle.std.specs.Option.{option_map}
use Rattle.gq_document.specs.SetViews.{sets_view}
use Rattle.gq_select.specs.Views.{is_of_kind, standing_view}
use Rattle.gq_reshape.specs.Helping.About.{sets_of_asked}
use Rattle.gq_reshape.proofs.Standing.{meant_there}
use Rattle.gq_reshape.proofs.asked.meant_in.Goals as goal

pub returns : goal.returns
returns c =
    let a = c.args.asked in
    meant_there (is_of_kind c.args.kind) a.range (sets_of_asked a) (sets_view c.deref.result.now) (option_map standing_view c.meant.result) (ap sets_view c.deref.ensures.value ∙ c.in_ok-sets.ensures) c.meant.ensures
