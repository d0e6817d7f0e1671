use Rattle.gq_rename.proofs.Soundness.{are_trees}
use Rattle.gq_rename.proofs.laws.valid_documents_are_trees.Goals as goal

pub returns : goal.returns
returns c = are_trees c.valid_documents_have_trees.ensures
