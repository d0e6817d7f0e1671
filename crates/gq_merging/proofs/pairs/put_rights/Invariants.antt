use Rattle.std.proofs.Common.{Contains, length, take}
use Rattle.gq_merging.specs.Helping.PairTables.{IsGiven, IsNumber, Gains}
use Rattle.gq_merging.proofs.pairs.put_rights.Given as goal

abbrev pub invariant-loop-right : goal.invariant-loop-right
invariant-loop-right l = Gains (IsGiven (Contains (take l.right-index l.rights)) (λ right. IsNumber (length l.look.rows.now) l.look.size l.left right)) l.initial.found.keys l.found.keys
