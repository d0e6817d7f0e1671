use Rattle.gq_events.proofs.Modified.{modified_at_change}
use Rattle.gq_events.proofs.laws.modified_at_change.Goals as goal

pub returns : goal.returns
returns c = modified_at_change c.answers_respond.ensures
