use Rattle.gq_project.proofs.Keys.{find-without_item_same, find-without_item_other}
use Rattle.gq_project.proofs.laws.close_is_gone.Goals as goal

pub returns : goal.returns
returns c docs closed = record { gone = find-without_item_same (λ d. d.key) docs closed; others = find-without_item_other (λ d. d.key) docs closed }
