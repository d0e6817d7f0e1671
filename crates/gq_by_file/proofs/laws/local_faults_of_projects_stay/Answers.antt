use Rattle.gq_by_file.proofs.OneFile.Stay.{projects_stay}
use Rattle.gq_by_file.proofs.laws.local_faults_of_projects_stay.Goals as goal

pub returns : goal.returns
returns c = projects_stay
