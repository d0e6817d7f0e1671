use Rattle.gq_rpc.proofs.Stays.{faults_stay}
use Rattle.gq_rpc.proofs.laws.faults_stay.Goals as goal

pub returns : goal.returns
returns c = faults_stay
