use Rattle.std.proofs.Common.{◌≡◌, map}
use Rattle.gq_completion.specs.Helping.Labels.{labelled}
use Rattle.gq_completion.proofs.labels.labelled.Given as goal

abbrev pub invariant-loop-label : goal.invariant-loop-label
invariant-loop-label l = l.all.items ≡ map (labelled l.kind) l.yielded
