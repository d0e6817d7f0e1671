use Rattle.gq_events.proofs.Steps.{out_is_bounded}
use Rattle.gq_events.proofs.laws.out_is_bounded.Goals as goal

pub returns : goal.returns
returns c = out_is_bounded
