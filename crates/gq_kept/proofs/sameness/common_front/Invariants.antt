-- those so far are alike
use Rattle.std.proofs.Common.{◌≡◌, map, take}
use Rattle.gq_kept.proofs.sameness.common_front.Given as goal

abbrev pub invariant-loop-i : goal.invariant-loop-i
invariant-loop-i g l = map g.T.Alike.bare (take l.i l.all) ≡ map g.T.Alike.bare (take l.i l.others)
