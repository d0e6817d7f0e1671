use Rattle.gq_events.proofs.Alone.{steps_exist}
use Rattle.gq_events.proofs.laws.steps_exist.Goals as goal

pub returns : goal.returns
returns c = steps_exist
