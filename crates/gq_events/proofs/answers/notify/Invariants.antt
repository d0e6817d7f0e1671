use Rattle.std.proofs.Common.{◌≡◌, ◌++◌, map}
use Rattle.gq_events.specs.declared.event.Out.TheVariants as out
use Rattle.gq_events.proofs.answers.notify.Given as goal

abbrev pub invariant-loop-message : goal.invariant-loop-message
invariant-loop-message l = l.outs.items ≡ l.fn.outs.items ++ map out.Notify l.yielded
