use Rattle.gq_rules.proofs.TreeLemmas.{have_trees}
use Rattle.gq_rules.proofs.laws.valid_documents_have_trees.Goals as goal

pub returns : goal.returns
returns c = have_trees
