use Rattle.std.proofs.Common.{◌≡◌, ◌-◌, ◌≤◌, ◌++◌, length, drop}
use Rattle.gq_lex.specs.Decoding.{texts_of, later_lines}
use Rattle.gq_lex.specs.Values.{lines}
use Rattle.gq_lex.proofs.lines.lines.Given as goal

abbrev pub invariant-loop-at : goal.invariant-loop-at
invariant-loop-at l = record {
  within : l.at ≤ length l.raw;
  left : texts_of l.found.items ++ later_lines (drop l.at l.raw) ≡ lines l.raw;
}

abbrev pub decreases-loop-at : goal.decreases-loop-at
decreases-loop-at l = length l.raw - l.at
