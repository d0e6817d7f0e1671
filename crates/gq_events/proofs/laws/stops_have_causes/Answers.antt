use Rattle.gq_events.proofs.Lifecycles.{stops_have_causes}
use Rattle.gq_events.proofs.laws.stops_have_causes.Goals as goal

pub returns : goal.returns
returns c = stops_have_causes
