use Rattle.gq_events.proofs.Steps.{one_is_decided}
use Rattle.gq_events.proofs.laws.one_is_decided.Goals as goal

pub returns : goal.returns
returns c = one_is_decided
