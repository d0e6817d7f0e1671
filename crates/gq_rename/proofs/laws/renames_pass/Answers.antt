use Rattle.gq_rename.proofs.Passing.{renames_pass}
use Rattle.gq_rename.proofs.laws.renames_pass.Goals as goal

pub returns : goal.returns
returns c = renames_pass c.valid_documents_are_trees.ensures c.renamed_projects_read.ensures c.fragment_renames_stay_valid.ensures c.variable_renames_stay_valid.ensures
