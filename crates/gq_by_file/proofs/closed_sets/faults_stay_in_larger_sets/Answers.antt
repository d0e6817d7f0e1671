use Rattle.gq_by_file.proofs.Closed.Rules.{stay_in_larger}
use Rattle.gq_by_file.proofs.closed_sets.faults_stay_in_larger_sets.Goals as goal

pub returns : goal.returns
returns c = stay_in_larger
