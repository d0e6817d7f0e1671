use Rattle.gq_rename.proofs.Responding.{answered}
use Rattle.gq_rename.proofs.laws.renames_keep_responses.Goals as goal

pub returns : goal.returns
returns c = answered c.one_tree.ensures c.fragment_renames_keep_responses.ensures c.variable_renames_keep_responses.ensures c.valid_documents_are_trees.ensures
