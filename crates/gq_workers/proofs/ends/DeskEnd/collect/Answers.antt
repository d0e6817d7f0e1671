use Rattle.gq_workers.proofs.InboxMoves.{collects}
use Rattle.gq_workers.proofs.ends.DeskEnd.collect.Goals as goal

pub recv_as-requires-clause-rule : goal.recv_as-requires-clause-rule
recv_as-requires-clause-rule g c = (collects _ _ c.args.self.now.collects, λ items views h at. tt)
