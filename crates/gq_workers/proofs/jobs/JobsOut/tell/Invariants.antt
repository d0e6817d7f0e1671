use Rattle.std.specs.Prelude.{◌≡◌}
use Rattle.gq_workers.proofs.jobs.JobsOut.tell.Given as goal

abbrev pub invariant-loop : goal.invariant-loop
invariant-loop g l = l.self ≡ l.fn.self
