-- all are alike where those are that are left
use Rattle.std.proofs.Common.{◌≡◌, map, drop}
use Rattle.gq_kept.proofs.sameness.are_alike.Given as goal

abbrev pub invariant-loop-i : goal.invariant-loop-i
invariant-loop-i g l = map g.T.Alike.bare (drop l.i l.all) ≡ map g.T.Alike.bare (drop l.i l.others) → map g.T.Alike.bare l.all ≡ map g.T.Alike.bare l.others
