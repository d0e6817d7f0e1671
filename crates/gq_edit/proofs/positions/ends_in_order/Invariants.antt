use Rattle.std.proofs.Common.{◌≡◌, ◌++◌, drop}
use Rattle.gq_edit.specs.Helping.Ends.{ends_of}
use Rattle.gq_edit.proofs.positions.ends_in_order.Given as goal

abbrev pub invariant-loop-replacement : goal.invariant-loop-replacement
invariant-loop-replacement l = l.ends.items ++ ends_of (drop l.replacement-index l.replacements) ≡ ends_of l.replacements
