-- those so far
use Rattle.std.proofs.Common.{◌≡◌, take, filter}
use Rattle.std.specs.Bool.{beq}
use Rattle.gq_by_file.specs.Closed.RestsOnNames.{rests_on_names}
use Rattle.gq_by_file.proofs.part.resting.Given as goal

abbrev pub invariant-loop-fault : goal.invariant-loop-fault
invariant-loop-fault l = l.some.items ≡ filter (λ fault. beq (rests_on_names fault.code) l.on_names) (take l.fault-index l.faults)
