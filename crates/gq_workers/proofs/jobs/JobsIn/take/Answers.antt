use Rattle.gq_workers.specs.Orders.{orders_in, with_order}
use Rattle.gq_workers.proofs.JobMoves.{takes, adds_order}
use Rattle.gq_workers.proofs.jobs.JobsIn.take.Goals as goal

pub recv_as-requires-clause-rule : goal.recv_as-requires-clause-rule
recv_as-requires-clause-rule g c = (takes orders_in with_order adds_order _ _, λ items views b at. tt)
