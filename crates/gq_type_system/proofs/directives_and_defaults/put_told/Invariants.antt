use Rattle.std.proofs.Common.{◌≡◌, ◌++◌, drop, map}
use Rattle.gq_type_system.specs.DirectivesAndDefaults.{told}
use Rattle.gq_type_system.proofs.directives_and_defaults.put_told.Given as goal

abbrev pub invariant-loop-fault : goal.invariant-loop-fault
invariant-loop-fault l = l.faults.items ++ map told (drop l.fault-index l.found) ≡ l.initial.faults.items ++ map told l.found
