use Rattle.gq_by_file.proofs.OneFile.Stay.{stay}
use Rattle.gq_by_file.proofs.laws.local_faults_stay.Goals as goal

pub returns : goal.returns
returns c = stay
