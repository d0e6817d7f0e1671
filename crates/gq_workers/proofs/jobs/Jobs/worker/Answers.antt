use Rattle.gq_workers.specs.Orders.{orders_in, with_order}
use Rattle.gq_workers.proofs.JobMoves.{forks, adds_order}
use Rattle.gq_workers.proofs.jobs.Jobs.worker.Goals as goal

pub another-pass-requires-clause-rule : goal.another-pass-requires-clause-rule
another-pass-requires-clause-rule g c = forks orders_in with_order adds_order _ _
