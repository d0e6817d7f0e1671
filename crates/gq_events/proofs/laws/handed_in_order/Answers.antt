use Rattle.gq_events.proofs.Steps.{handed_ascend}
use Rattle.gq_events.proofs.laws.handed_in_order.Goals as goal

pub returns : goal.returns
returns c = handed_ascend
