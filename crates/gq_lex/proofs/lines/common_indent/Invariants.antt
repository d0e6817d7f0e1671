use Rattle.std.proofs.Common.{◌≡◌, ◌≤◌, length, drop}
use Rattle.gq_lex.specs.Decoding.{texts_of}
use Rattle.gq_lex.specs.Values.{common_indent}
use Rattle.gq_lex.proofs.lines.common_indent.Given as goal

abbrev pub invariant-loop-at : goal.invariant-loop-at
invariant-loop-at l = record {
  within : l.at ≤ length l.lines;
  least : l.least ≡ common_indent (texts_of (drop l.at l.lines));
}

abbrev pub decreases-loop-at : goal.decreases-loop-at
decreases-loop-at l = l.at
