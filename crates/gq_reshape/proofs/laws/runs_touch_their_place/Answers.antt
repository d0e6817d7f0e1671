use Rattle.gq_reshape.proofs.RunTouches.{runs_touch_their_place}
use Rattle.gq_reshape.proofs.laws.runs_touch_their_place.Goals as goal

pub returns : goal.returns
returns c = runs_touch_their_place
