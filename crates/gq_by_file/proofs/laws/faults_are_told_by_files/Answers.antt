use Rattle.gq_by_file.proofs.OneFile.Gate.{told_by_files}
use Rattle.gq_by_file.proofs.laws.faults_are_told_by_files.Goals as goal

pub returns : goal.returns
returns c = told_by_files
