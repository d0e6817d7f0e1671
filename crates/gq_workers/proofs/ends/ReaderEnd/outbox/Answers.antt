use Rattle.gq_workers.proofs.InboxMoves.{hires}
use Rattle.gq_workers.proofs.ends.ReaderEnd.outbox.Goals as goal

pub another-pass-requires-clause-rule : goal.another-pass-requires-clause-rule
another-pass-requires-clause-rule g c = hires _ _
