use Rattle.std.proofs.Common.{◌≡◌, take}
use Rattle.gq_check.specs.Helping.Runs.{AreAllOf, first_key}
use Rattle.gq_check.proofs.lines.run_len.Given as goal

-- those so far are of the first one's document
abbrev pub invariant-loop-item : goal.invariant-loop-item
invariant-loop-item l = record {
  same : AreAllOf (first_key l.found) (take l.item-index l.found);
  counted : l.count ≡ l.item-index;
}
