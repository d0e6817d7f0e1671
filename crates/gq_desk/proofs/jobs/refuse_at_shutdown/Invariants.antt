use Rattle.std.proofs.Common.{◌≡◌, ◌++◌}
use Rattle.std.specs.Prelude.{codes}
use Rattle.gq_events.specs.Rules.{failed}
use Rattle.gq_desk.specs.Helping.Settling.{refused_each}
use Rattle.gq_desk.proofs.jobs.refuse_at_shutdown.Given as goal

abbrev pub invariant-loop-job : goal.invariant-loop-job
invariant-loop-job l = l.outs.items ≡ l.fn.outs.items ++ refused_each (failed (codes "shutdown")) l.yielded
