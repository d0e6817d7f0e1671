use Rattle.std.proofs.Common.{◌≡◌, take}
use Rattle.gq_fault.specs.Tells.{told}
use Rattle.gq_fault.proofs.found.found_at.Given as goal

-- what is told of the faults so far
abbrev pub invariant-loop-fault : goal.invariant-loop-fault
invariant-loop-fault l = l.all ≡ told l.documents (take l.fault-index l.faults)
