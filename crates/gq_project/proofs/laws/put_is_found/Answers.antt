use Rattle.gq_project.proofs.Keys.{find-with_item_same, find-with_item_other}
use Rattle.gq_project.proofs.laws.put_is_found.Goals as goal

pub returns : goal.returns
returns c docs doc = record { found = find-with_item_same (λ d. d.key) docs doc; others = find-with_item_other (λ d. d.key) docs doc }
