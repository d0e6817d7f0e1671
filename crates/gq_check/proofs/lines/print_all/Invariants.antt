use Rattle.std.proofs.Common.{◌≡◌, ◌++◌, length}
use Rattle.gq_check.specs.Formats.{printed_all}
use Rattle.gq_check.proofs.lines.print_all.Given as goal

-- what is printed so far, and what is left to print
abbrev pub invariant-runs : goal.invariant-runs
invariant-runs l = l.lines.items ++ printed_all l.format l.project l.rest ≡ printed_all l.format l.project l.found

abbrev pub decreases-runs : goal.decreases-runs
decreases-runs l = length l.rest
