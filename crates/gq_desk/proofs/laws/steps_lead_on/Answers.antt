use Rattle.gq_desk.proofs.Standing.{steps_lead_on}
use Rattle.gq_desk.proofs.laws.steps_lead_on.Goals as goal

pub returns : goal.returns
returns c = steps_lead_on
