use Rattle.gq_events.proofs.Steps.{pending_have_own_ids}
use Rattle.gq_events.proofs.laws.pending_have_own_ids.Goals as goal

pub returns : goal.returns
returns c = pending_have_own_ids
