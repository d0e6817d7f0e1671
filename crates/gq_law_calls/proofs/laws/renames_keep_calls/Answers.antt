use Rattle.gq_law_calls.proofs.RenameAnswers.{rename_answers_keep_calls}
use Rattle.gq_law_calls.proofs.laws.renames_keep_calls.Goals as goal

pub returns : goal.returns
returns c =
    rename_answers_keep_calls c.one_tree.ensures c.valid_documents_are_trees.ensures c.offsets_mean_one_target.ensures c.renames_are_determined.ensures
    c.fragment_renames_keep_calls.ensures c.variable_renames_keep_calls.ensures
