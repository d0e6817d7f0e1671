-- the marks of the files so far are there
use Rattle.std.proofs.Common.{◌≡◌, ◌++◌, drop, map}
use Rattle.gq_by_file.specs.Helping.Covers.{has_one_of}
use Rattle.gq_by_file.proofs.across.spreading_by.Given as goal

abbrev pub invariant-loop-one : goal.invariant-loop-one
invariant-loop-one l = l.marks.items ++ map (λ one. has_one_of l.defined one.spreads.items) (drop l.one-index l.names) ≡ map (λ one. has_one_of l.defined one.spreads.items) l.names
