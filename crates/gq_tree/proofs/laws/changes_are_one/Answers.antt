use Rattle.gq_tree.proofs.ForestLemmas.{relabel_twice}
use Rattle.gq_tree.proofs.laws.changes_are_one.Goals as goal

pub returns : goal.returns
returns g c = relabel_twice
