use Rattle.std.proofs.Common.{◌≡◌, length}
use Rattle.gq_variables.proofs.parts.in_several.Given as goal

abbrev pub invariant-loop-row : goal.invariant-loop-row
invariant-loop-row l = record {
  seen : length l.seen.items ≡ l.count;
  again : length l.again.items ≡ l.count;
}
