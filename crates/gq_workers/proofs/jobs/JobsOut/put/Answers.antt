use Rattle.gq_workers.specs.Orders.{orders_in, with_order}
use Rattle.gq_workers.proofs.JobMoves.{puts, adds_order}
use Rattle.gq_workers.proofs.jobs.JobsOut.put.Goals as goal

pub send_as-requires-clause-rule : goal.send_as-requires-clause-rule
send_as-requires-clause-rule g c = (puts orders_in with_order adds_order _ _ _ _, λ items views b at. tt)
