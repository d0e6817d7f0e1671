use Rattle.gq_events.proofs.Lifecycles.{sessions_are_told}
use Rattle.gq_events.proofs.laws.sessions_are_told.Goals as goal

pub returns : goal.returns
returns c = sessions_are_told
