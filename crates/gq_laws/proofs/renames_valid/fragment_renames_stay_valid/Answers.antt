use Rattle.gq_laws.proofs.Renaming.Promises.{nothing_demanded}
use Rattle.gq_laws.proofs.RenamedValid.Stays.{fragment_renames}
use Rattle.gq_laws.proofs.renames_valid.fragment_renames_stay_valid.Goals as goal

pub returns : goal.returns
returns c =
    let nothing = nothing_demanded c.no_project_is_valid_and_invalid.ensures in
    fragment_renames c.one_tree.ensures nothing c.valid_documents_have_trees.ensures c.renamed_projects_read.ensures c.fragment_renames_keep_all_rules.ensures
