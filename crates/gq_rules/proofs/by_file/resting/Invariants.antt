-- those so far
use Rattle.std.proofs.Common.{◌≡◌, take, filter}
use Rattle.std.specs.Bool.{beq}
use Rattle.gq_rules.specs.RestsOnFile.{rests_on_file}
use Rattle.gq_rules.proofs.by_file.resting.Given as goal

abbrev pub invariant-loop-fault : goal.invariant-loop-fault
invariant-loop-fault l = l.some.items ≡ filter (λ fault. beq (rests_on_file fault.code) l.on_file) (take l.fault-index l.faults)
