use Rattle.std.proofs.Common.{◌≡◌, ◌≤◌, length, take}
use Rattle.gq_lex.specs.Decoding.{texts_of, to_filled}
use Rattle.gq_lex.proofs.lines.to_filled.Given as goal

abbrev pub invariant-loop-end : goal.invariant-loop-end
invariant-loop-end l = record {
  within : l.end ≤ length l.lines;
  left : to_filled (texts_of l.lines) ≡ to_filled (texts_of (take l.end l.lines));
}

abbrev pub decreases-loop-end : goal.decreases-loop-end
decreases-loop-end l = l.end
