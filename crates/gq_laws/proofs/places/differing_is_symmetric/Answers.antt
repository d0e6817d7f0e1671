use Rattle.gq_laws.proofs.Placing.MergingBack.{differ_back}
use Rattle.gq_laws.proofs.places.differing_is_symmetric.Goals as goal

pub returns : goal.returns
returns c = λ es purpose a b h. differ_back h
