use Rattle.gq_reshape.proofs.RemovePasses.{removals_pass, never_refused}
use Rattle.gq_reshape.proofs.laws.removals_pass.Goals as goal

pub returns-clause-pass : goal.returns-clause-pass
returns-clause-pass c documents in_order valid readings are ask =
    removals_pass c.one_tree.ensures c.no_project_is_valid_and_invalid.ensures c.restated_projects_keep_responses.ensures c.valid_documents_have_trees.ensures c.removed_texts_read.ensures c.removals_keep_all_rules.ensures
    documents in_order valid readings are ask

pub returns-clause-never : goal.returns-clause-never
returns-clause-never c =
    never_refused (λ documents in_order valid readings are ask.
    removals_pass c.one_tree.ensures c.no_project_is_valid_and_invalid.ensures c.restated_projects_keep_responses.ensures c.valid_documents_have_trees.ensures c.removed_texts_read.ensures c.removals_keep_all_rules.ensures
    documents in_order valid readings are ask)
