use Rattle.gq_project.proofs.DocumentLemmas.{IsInOrder-after_change}
use Rattle.gq_project.proofs.laws.changes_keep_order.Goals as goal

pub returns : goal.returns
returns c = IsInOrder-after_change
