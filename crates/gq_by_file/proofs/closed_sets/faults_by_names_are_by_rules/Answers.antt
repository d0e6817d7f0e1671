use Rattle.gq_by_file.proofs.Closed.ByNames.{by_rules}
use Rattle.gq_by_file.proofs.closed_sets.faults_by_names_are_by_rules.Goals as goal

pub returns : goal.returns
returns c = by_rules
