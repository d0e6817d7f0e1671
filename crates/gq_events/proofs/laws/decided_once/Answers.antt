use Rattle.gq_events.proofs.Firsts.{decided_once}
use Rattle.gq_events.proofs.laws.decided_once.Goals as goal

pub returns : goal.returns
returns c = decided_once
