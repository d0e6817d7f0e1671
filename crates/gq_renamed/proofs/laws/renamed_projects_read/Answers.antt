use Rattle.gq_renamed.proofs.ProjectRenaming.{renamed_projects_read as renamed_projects}
use Rattle.gq_renamed.proofs.laws.renamed_projects_read.Goals as goal

pub returns : goal.returns
returns start rule new documents trees in_order are_trees is_name may = renamed_projects rule new documents trees in_order are_trees is_name may
