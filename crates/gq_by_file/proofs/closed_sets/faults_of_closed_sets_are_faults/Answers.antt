use Rattle.gq_by_file.proofs.Closed.Rules.{closed_faults}
use Rattle.gq_by_file.proofs.closed_sets.faults_of_closed_sets_are_faults.Goals as goal

pub returns : goal.returns
returns c = closed_faults
