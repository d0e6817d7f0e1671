use Rattle.std.proofs.Common.{◌≡◌, ◌++◌}
use Rattle.gq_rpc.specs.declared.messages.ResponseError.TheVariants as error
use Rattle.gq_desk.specs.Helping.Settling.{refused_each}
use Rattle.gq_desk.proofs.jobs.refuse_modified.Given as goal

abbrev pub invariant-loop-job : goal.invariant-loop-job
invariant-loop-job l = l.outs.items ≡ l.fn.outs.items ++ refused_each error.ContentModified l.yielded
