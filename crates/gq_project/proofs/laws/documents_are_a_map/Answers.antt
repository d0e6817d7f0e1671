use Rattle.gq_project.proofs.Keys.{Ascend_settled}
use Rattle.gq_project.proofs.laws.documents_are_a_map.Goals as goal

pub returns : goal.returns
returns c = Ascend_settled (λ d. d.key)
