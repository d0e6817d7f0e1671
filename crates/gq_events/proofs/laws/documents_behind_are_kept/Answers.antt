use Rattle.gq_events.proofs.DocumentsKept.{documents_behind_are_kept}
use Rattle.gq_events.proofs.laws.documents_behind_are_kept.Goals as goal

pub returns : goal.returns
returns c = documents_behind_are_kept
