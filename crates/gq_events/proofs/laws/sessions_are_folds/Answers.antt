use Rattle.gq_events.proofs.Lifecycles.{sessions_are_folds}
use Rattle.gq_events.proofs.laws.sessions_are_folds.Goals as goal

pub returns : goal.returns
returns c = sessions_are_folds
