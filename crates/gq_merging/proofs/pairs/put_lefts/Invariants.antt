use Rattle.std.proofs.Common.{Contains, length, take}
use Rattle.gq_merging.specs.Helping.PairTables.{IsGiven, IsNumber, Gains}
use Rattle.gq_merging.proofs.pairs.put_lefts.Given as goal

abbrev pub invariant-loop-left : goal.invariant-loop-left
invariant-loop-left l = Gains (IsGiven (Contains (take l.left-index l.lefts)) (λ left. IsNumber (length l.look.rows.now) l.look.size left l.right)) l.initial.found.keys l.found.keys
