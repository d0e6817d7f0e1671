use Rattle.std.proofs.Common.{◌≡◌, ◌++◌, not}
use Rattle.std.specs.Prelude.{filter}
use Rattle.gq_rpc.specs.declared.messages.ResponseError.TheVariants as error
use Rattle.gq_events.specs.Tasks.{is_of}
use Rattle.gq_desk.specs.Helping.Settling.{refused_each}
use Rattle.gq_desk.proofs.jobs.refuse_cancelled.Given as goal

abbrev pub invariant-loop-job : goal.invariant-loop-job
invariant-loop-job l = record {
  kept : l.kept.items ≡ filter (λ job. not (is_of l.id job.task)) l.yielded;
  told : l.outs.items ≡ l.fn.outs.items ++ refused_each error.Cancelled (filter (λ job. is_of l.id job.task) l.yielded);
}
