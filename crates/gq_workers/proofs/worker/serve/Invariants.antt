use Rattle.gq_workers.specs.Work.{AllHanded}
use Rattle.gq_workers.proofs.worker.serve.Given as goal

abbrev pub invariant-loop : goal.invariant-loop
invariant-loop g l = AllHanded l.fn.jobs l.jobs l.fn.inbox l.inbox
