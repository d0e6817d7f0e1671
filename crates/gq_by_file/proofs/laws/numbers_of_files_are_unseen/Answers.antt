use Rattle.gq_rules.specs.Files.{IsLocalFault}
use Rattle.gq_by_file.proofs.OneFile.Local.{local_faults_are}
use Rattle.gq_by_file.proofs.OneFile.LocalLaws.{unseen}
use Rattle.gq_by_file.proofs.laws.numbers_of_files_are_unseen.Goals as goal

pub returns : goal.returns
returns c = unseen IsLocalFault local_faults_are
