use Rattle.std.proofs.Common.{◌≡◌, drop}
use Rattle.std.specs.Prelude.{find}
use Rattle.gq_document.specs.Definitions.{operations_view}
use Rattle.gq_executor.specs.Operations.{is_called}
use Rattle.gq_executor.proofs.execute.called.Given as goal

abbrev pub invariant-loop-operation : goal.invariant-loop-operation
invariant-loop-operation l = find (is_called l.name) (operations_view l.operations) ≡ find (is_called l.name) (operations_view (drop l.operation-index l.operations))
