use Rattle.gq_laws.proofs.Placing.MergingBack.{meet_back}
use Rattle.gq_laws.proofs.places.meeting_is_symmetric.Goals as goal

pub returns : goal.returns
returns c = λ x purpose a b h. meet_back h
