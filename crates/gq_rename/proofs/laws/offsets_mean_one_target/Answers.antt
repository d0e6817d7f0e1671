use Rattle.gq_rename.proofs.Trees.{same_target}
use Rattle.gq_rename.proofs.laws.offsets_mean_one_target.Goals as goal

pub returns : goal.returns
returns c = same_target c.one_tree.ensures
