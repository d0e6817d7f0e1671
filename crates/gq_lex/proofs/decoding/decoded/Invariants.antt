use Rattle.std.proofs.Common.{◌≡◌, ◌-◌, ◌≤◌, length, drop}
use Rattle.gq_lex.specs.Decoding.{decoded, with_front}
use Rattle.gq_lex.proofs.decoding.decoded.Given as goal

-- what was decoded and what is left give the whole
abbrev pub invariant-loop-at : goal.invariant-loop-at
invariant-loop-at l = record {
  within : l.at ≤ length l.bytes;
  left : decoded l.form l.bytes 0 ≡ with_front l.out.items (decoded l.form (drop l.at l.bytes) 0);
}

abbrev pub decreases-loop-at : goal.decreases-loop-at
decreases-loop-at l = length l.bytes - l.at
