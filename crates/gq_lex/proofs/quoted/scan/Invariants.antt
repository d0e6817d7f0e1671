use Rattle.std.proofs.Common.{◌≡◌, ◌-◌, ◌≤◌, length, drop}
use Rattle.gq_lex.specs.Scanning.{grown, scan}
use Rattle.gq_lex.proofs.quoted.scan.Given as goal

-- what is left gives the whole
abbrev pub invariant-loop-at : goal.invariant-loop-at
invariant-loop-at l = record {
  within : l.at ≤ length l.bytes;
  left : scan l.form l.bytes 0 ≡ grown l.at (scan l.form (drop l.at l.bytes) 0);
}

abbrev pub decreases-loop-at : goal.decreases-loop-at
decreases-loop-at l = length l.bytes - l.at
