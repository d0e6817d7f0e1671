use Rattle.std.proofs.Common.{◌≡◌, length}
use Rattle.gq_variables.proofs.parts.mark_again.Given as goal

abbrev pub invariant-loop-number : goal.invariant-loop-number
invariant-loop-number l = record {
  seen : length l.seen.items ≡ length l.initial.seen.items;
  again : length l.again.items ≡ length l.initial.again.items;
}
