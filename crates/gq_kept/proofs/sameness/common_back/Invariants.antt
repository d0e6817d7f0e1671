-- those so far, from the end, are alike
use Rattle.std.proofs.Common.{◌≡◌, ◌-◌, length, map, drop}
use Rattle.gq_kept.proofs.sameness.common_back.Given as goal

abbrev pub invariant-loop-i : goal.invariant-loop-i
invariant-loop-i g l = map g.T.Alike.bare (drop (length l.all - l.i) l.all) ≡ map g.T.Alike.bare (drop (length l.others - l.i) l.others)
