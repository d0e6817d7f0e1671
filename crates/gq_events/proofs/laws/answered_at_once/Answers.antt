use Rattle.gq_events.proofs.Alone.{answered_at_once}
use Rattle.gq_events.proofs.laws.answered_at_once.Goals as goal

pub returns : goal.returns
returns c = answered_at_once
