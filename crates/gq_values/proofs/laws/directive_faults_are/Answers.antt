use Rattle.gq_values.proofs.DirectiveRules.{directive_faults_are}
use Rattle.gq_values.proofs.laws.directive_faults_are.Goals as goal

pub returns : goal.returns
returns c = directive_faults_are
