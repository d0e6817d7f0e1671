use Rattle.gq_desk.proofs.Standing.{numbers_stay_low}
use Rattle.gq_desk.proofs.laws.numbers_stay_low.Goals as goal

pub returns : goal.returns
returns c = numbers_stay_low
