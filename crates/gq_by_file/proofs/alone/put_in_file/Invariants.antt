-- the faults so far are put behind, with that number
use Rattle.std.proofs.Common.{◌≡◌, ◌++◌, drop, map}
use Rattle.gq_rules.specs.Files.{in_file}
use Rattle.gq_by_file.proofs.alone.put_in_file.Given as goal

abbrev pub invariant-loop-fault : goal.invariant-loop-fault
invariant-loop-fault l = l.all.items ++ map (in_file l.file) (drop l.fault-index l.faults) ≡ l.initial.all.items ++ map (in_file l.file) l.faults
