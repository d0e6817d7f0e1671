-- the files of the faults so far are there
use Rattle.std.proofs.Common.{◌≡◌, ◌++◌, drop, map}
use Rattle.gq_by_file.proofs.covers.faulty_files.Given as goal

abbrev pub invariant-loop-fault : goal.invariant-loop-fault
invariant-loop-fault l = l.files.items ++ map (λ f. f.file) (drop l.fault-index l.faults) ≡ map (λ f. f.file) l.faults
