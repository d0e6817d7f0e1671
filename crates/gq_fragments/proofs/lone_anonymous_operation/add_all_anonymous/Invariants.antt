use Rattle.std.proofs.Common.{◌≡◌, ◌++◌, drop}
use Rattle.gq_document.specs.Definitions.{operations_view}
use Rattle.gq_fragments.specs.Helping.OperationPlaces.{anonymous}
use Rattle.gq_fragments.proofs.lone_anonymous_operation.add_all_anonymous.Given as goal

abbrev pub invariant-loop-operation : goal.invariant-loop-operation
invariant-loop-operation l = l.faults.items ++ anonymous (operations_view (drop l.operation-index l.operations)) ≡ l.initial.faults.items ++ anonymous (operations_view l.operations)
