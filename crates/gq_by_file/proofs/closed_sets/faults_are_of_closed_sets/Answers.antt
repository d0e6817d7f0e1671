use Rattle.gq_by_file.proofs.Closed.Rules.{caused}
use Rattle.gq_by_file.proofs.closed_sets.faults_are_of_closed_sets.Goals as goal

pub returns : goal.returns
returns c = caused
