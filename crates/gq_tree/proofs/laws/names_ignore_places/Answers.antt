use Rattle.gq_tree.proofs.NameLemmas.{names_placed}
use Rattle.gq_tree.proofs.laws.names_ignore_places.Goals as goal

pub returns : goal.returns
returns g c = names_placed
