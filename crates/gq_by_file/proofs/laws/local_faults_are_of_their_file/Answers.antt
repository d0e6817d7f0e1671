use Rattle.gq_rules.specs.Files.{IsLocalFault}
use Rattle.gq_by_file.proofs.OneFile.Local.{local_faults_are}
use Rattle.gq_by_file.proofs.OneFile.LocalLaws.{of_their_file}
use Rattle.gq_by_file.proofs.laws.local_faults_are_of_their_file.Goals as goal

pub returns : goal.returns
returns c = of_their_file IsLocalFault local_faults_are
