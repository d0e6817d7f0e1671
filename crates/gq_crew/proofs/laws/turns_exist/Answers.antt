use Rattle.gq_crew.proofs.Outputs.{turns_exist}
use Rattle.gq_crew.proofs.laws.turns_exist.Goals as goal

pub returns : goal.returns
returns c = turns_exist
