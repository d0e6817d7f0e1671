use Rattle.gq_values.proofs.LiteralRules.{literal_faults_are}
use Rattle.gq_values.proofs.laws.literal_faults_are.Goals as goal

pub returns : goal.returns
returns c = literal_faults_are
