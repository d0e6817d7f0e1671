use Rattle.std.proofs.Common.{◌≡◌, ◌++◌, drop}
use Rattle.gq_variables.specs.Helping.Leading.{numbers_with_uses}
use Rattle.gq_variables.specs.Helping.Views.{rows_view}
use Rattle.gq_variables.proofs.leading.numbers_with_uses.Given as goal

abbrev pub invariant-loop-number : goal.invariant-loop-number
invariant-loop-number l = l.numbers.items ++ numbers_with_uses l.number (rows_view (drop l.number l.rows)) ≡ numbers_with_uses 0 (rows_view l.rows)
