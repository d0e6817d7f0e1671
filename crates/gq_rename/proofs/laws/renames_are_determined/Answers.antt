use Rattle.gq_rename.proofs.OneRename.{renames_are_determined}
use Rattle.gq_rename.proofs.laws.renames_are_determined.Goals as goal

pub returns : goal.returns
returns c = renames_are_determined c.one_tree.ensures
