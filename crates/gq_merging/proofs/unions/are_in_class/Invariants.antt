use Rattle.std.proofs.Common.{ℕ, Contains, take}
use Rattle.gq_graph.specs.Reach.{row}
use Rattle.gq_merging.proofs.unions.are_in_class.Given as goal

abbrev pub invariant-loop-set : goal.invariant-loop-set
invariant-loop-set l = (n : ℕ) → Contains (take l.set-index l.group) n → Contains (row l.numbers n) l.class
