use Rattle.std.proofs.Common.{◌≡◌, ◌++◌, drop}
use Rattle.gq_document.specs.Definitions.{operations_view}
use Rattle.gq_fragments.specs.Helping.OperationPlaces.{subscriptions}
use Rattle.gq_fragments.proofs.subscription_operation.add_subscriptions.Given as goal

abbrev pub invariant-loop-operation : goal.invariant-loop-operation
invariant-loop-operation l = l.faults.items ++ subscriptions (operations_view (drop l.operation-index l.operations)) ≡ l.initial.faults.items ++ subscriptions (operations_view l.operations)
