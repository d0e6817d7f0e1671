use Rattle.gq_laws.proofs.Merging.Restated.{restated_projects_merge}
use Rattle.gq_laws.proofs.merging_kept.restated_projects_merge.Goals as goal

pub returns : goal.returns
returns c = restated_projects_merge
