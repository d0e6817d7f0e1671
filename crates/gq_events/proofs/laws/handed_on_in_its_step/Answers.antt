use Rattle.gq_events.proofs.HandedOn.{handed_on_in_its_step}
use Rattle.gq_events.proofs.laws.handed_on_in_its_step.Goals as goal

pub returns : goal.returns
returns c = handed_on_in_its_step
