-- those so far
use Rattle.std.proofs.Common.{◌≡◌, take, filter}
use Rattle.gq_rules.specs.RestsOnFile.{rests_on_file}
use Rattle.gq_by_file.proofs.alone.resting_on_file.Given as goal

abbrev pub invariant-loop-fault : goal.invariant-loop-fault
invariant-loop-fault l = l.some.items ≡ filter (λ fault. rests_on_file fault.code) (take l.fault-index l.faults)
