-- the faults of the covers so far are there
use Rattle.std.proofs.Common.{◌≡◌, ◌++◌, drop, flat_map}
use Rattle.gq_by_file.proofs.covers.put_faults.Given as goal

abbrev pub invariant-loop-cover : goal.invariant-loop-cover
invariant-loop-cover l = l.all.items ++ flat_map (λ c. c.faults.items) (drop l.cover-index l.covers) ≡ l.initial.all.items ++ flat_map (λ c. c.faults.items) l.covers
