use Rattle.gq_events.proofs.Steps.{silent_after_stop}
use Rattle.gq_events.proofs.laws.silent_after_stop.Goals as goal

pub returns : goal.returns
returns c = silent_after_stop
