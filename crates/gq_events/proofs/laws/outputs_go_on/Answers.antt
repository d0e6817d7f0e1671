use Rattle.gq_events.proofs.Behind.{outputs_go_on}
use Rattle.gq_events.proofs.laws.outputs_go_on.Goals as goal

pub returns : goal.returns
returns c = outputs_go_on
