use Rattle.gq_laws.proofs.Renaming.Promises.{nothing_demanded}
use Rattle.gq_laws.proofs.RenamedValid.VariablesStay.{variable_renames}
use Rattle.gq_laws.proofs.renames_valid.variable_renames_stay_valid.Goals as goal

pub returns : goal.returns
returns c =
    let nothing = nothing_demanded c.no_project_is_valid_and_invalid.ensures in
    let rules = c.variable_renames_keep_rules.ensures in
    variable_renames c.one_tree.ensures nothing c.valid_documents_have_trees.ensures c.renamed_projects_read.ensures rules.operations rules.fields rules.fragments rules.spreads rules.variables
    rules.merging
