use Rattle.std.proofs.Common.{◌≡◌, ◌-◌, ◌≤◌, length, drop}
use Rattle.gq_lex.specs.Decoding.{texts_of}
use Rattle.gq_lex.specs.Values.{from_filled}
use Rattle.gq_lex.proofs.lines.from_filled.Given as goal

abbrev pub invariant-loop-at : goal.invariant-loop-at
invariant-loop-at l = record {
  within : l.at ≤ length l.lines;
  left : from_filled (texts_of l.lines) ≡ from_filled (texts_of (drop l.at l.lines));
}

abbrev pub decreases-loop-at : goal.decreases-loop-at
decreases-loop-at l = length l.lines - l.at
