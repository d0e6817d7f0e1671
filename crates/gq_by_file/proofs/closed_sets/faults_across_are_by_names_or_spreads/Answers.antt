use Rattle.gq_by_file.proofs.Closed.ByNames.{by_names_or_spreads}
use Rattle.gq_by_file.proofs.closed_sets.faults_across_are_by_names_or_spreads.Goals as goal

pub returns : goal.returns
returns c = by_names_or_spreads
