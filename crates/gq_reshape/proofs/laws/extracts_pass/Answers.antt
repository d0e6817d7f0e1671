use Rattle.gq_reshape.proofs.ExtractPasses.{extracts_pass, never_refused}
use Rattle.gq_reshape.proofs.TypeNames.{type_names}
use Rattle.gq_reshape.proofs.laws.extracts_pass.Goals as goal

pub returns-clause-pass : goal.returns-clause-pass
returns-clause-pass c documents in_order valid readings are ask =
    extracts_pass c.one_tree.ensures c.no_project_is_valid_and_invalid.ensures c.restated_projects_keep_responses.ensures c.valid_documents_have_trees.ensures c.extracted_texts_read.ensures c.extracts_keep_all_rules.ensures
    type_names documents in_order valid readings are ask

pub returns-clause-never : goal.returns-clause-never
returns-clause-never c =
    never_refused (λ documents in_order valid readings are ask.
    extracts_pass c.one_tree.ensures c.no_project_is_valid_and_invalid.ensures c.restated_projects_keep_responses.ensures c.valid_documents_have_trees.ensures c.extracted_texts_read.ensures c.extracts_keep_all_rules.ensures
    type_names documents in_order valid readings are ask)
