use Rattle.gq_rename.proofs.OneRename.{prepared_names_are_determined}
use Rattle.gq_rename.proofs.laws.prepared_names_are_determined.Goals as goal

pub returns : goal.returns
returns c = prepared_names_are_determined c.one_tree.ensures
