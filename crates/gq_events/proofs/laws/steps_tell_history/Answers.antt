use Rattle.gq_events.proofs.Behind.{steps_tell_history}
use Rattle.gq_events.proofs.laws.steps_tell_history.Goals as goal

pub returns : goal.returns
returns c = steps_tell_history
