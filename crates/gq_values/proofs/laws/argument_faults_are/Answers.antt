use Rattle.gq_values.proofs.ArgumentRules.{argument_faults_are}
use Rattle.gq_values.proofs.laws.argument_faults_are.Goals as goal

pub returns : goal.returns
returns c = argument_faults_are
