use Rattle.gq_events.proofs.Firsts.{decided_at_first}
use Rattle.gq_events.proofs.laws.decided_at_first.Goals as goal

pub returns : goal.returns
returns c = decided_at_first
