use Rattle.gq_tree.proofs.ForestLemmas.{relabel_labels}
use Rattle.gq_tree.proofs.laws.labels_are_changed.Goals as goal

pub returns : goal.returns
returns g c = relabel_labels
