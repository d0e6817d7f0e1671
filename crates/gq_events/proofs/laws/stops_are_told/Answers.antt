use Rattle.gq_events.proofs.Lifecycles.{stops_are_told}
use Rattle.gq_events.proofs.laws.stops_are_told.Goals as goal

pub returns : goal.returns
returns c = stops_are_told
