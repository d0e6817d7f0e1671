use Rattle.gq_reshape.proofs.InlinePasses.{inlines_pass, never_refused}
use Rattle.gq_reshape.proofs.laws.inlines_pass.Goals as goal

pub returns-clause-pass : goal.returns-clause-pass
returns-clause-pass c documents in_order valid readings are ask =
    inlines_pass c.one_tree.ensures c.no_project_is_valid_and_invalid.ensures c.restated_projects_keep_responses.ensures c.valid_documents_have_trees.ensures
    c.inlined_texts_read.ensures.texts c.inlined_texts_read.ensures.gone c.inlined_texts_read.ensures.both c.inlines_keep_all_rules.ensures documents in_order valid readings are ask

pub returns-clause-never : goal.returns-clause-never
returns-clause-never c =
    never_refused (λ documents in_order valid readings are ask.
    inlines_pass c.one_tree.ensures c.no_project_is_valid_and_invalid.ensures c.restated_projects_keep_responses.ensures c.valid_documents_have_trees.ensures
    c.inlined_texts_read.ensures.texts c.inlined_texts_read.ensures.gone c.inlined_texts_read.ensures.both c.inlines_keep_all_rules.ensures documents in_order valid readings are ask)
