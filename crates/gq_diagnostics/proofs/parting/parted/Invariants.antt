use Rattle.std.proofs.Common.{◌≡◌, map}
use Rattle.gq_diagnostics.specs.Diagnostics.{found_in}
use Rattle.gq_diagnostics.proofs.parting.parted.Given as goal

abbrev pub invariant-loop-one : goal.invariant-loop-one
invariant-loop-one l = l.all.items ≡ map (found_in l.yielded) l.project
