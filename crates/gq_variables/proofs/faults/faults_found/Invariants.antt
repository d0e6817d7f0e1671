use Rattle.std.proofs.Common.{◌≡◌, ◌+◌, ℕ}
use Rattle.gq_document.specs.Executable.{executable_view}
use Rattle.gq_variables.specs.Helping.Behind.{AreBehind}
use Rattle.gq_variables.specs.Helping.VariablePlaces.{AreFaultsBefore}
use Rattle.gq_variables.specs.Helping.Views.{uses_view, rows_view}
use Rattle.gq_variables.proofs.faults.faults_found.Given as goal

abbrev pub invariant-loop-number : goal.invariant-loop-number
invariant-loop-number l = record {
  faults : AreFaultsBefore (executable_view l.executable) l.number l.found.items;
  behind : (before : ℕ) → before + 1 ≡ l.number → AreBehind (rows_view l.rows) l.parts.shared before (uses_view l.behind.uses.items);
}
