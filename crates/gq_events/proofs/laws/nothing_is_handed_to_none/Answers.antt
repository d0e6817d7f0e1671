use Rattle.gq_events.proofs.HandedOn.{nothing_is_handed_to_none}
use Rattle.gq_events.proofs.laws.nothing_is_handed_to_none.Goals as goal

pub returns : goal.returns
returns c = nothing_is_handed_to_none
