use Rattle.std.proofs.Common.{◌≡◌, ◌++◌, take}
use Rattle.gq_check.specs.Formats.{printed_all}
use Rattle.gq_check.proofs.lines.print_run.Given as goal

abbrev pub invariant-loop-item : goal.invariant-loop-item
invariant-loop-item l = l.lines.items ≡ l.initial.lines.items ++ printed_all l.format l.project (take l.item-index l.found)
