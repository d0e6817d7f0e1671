use Rattle.std.proofs.Common.{◌≡◌, ◌++◌, drop}
use Rattle.gq_document.specs.Definitions.{operations_view}
use Rattle.gq_fragments.specs.Helping.OperationPlaces.{mutations}
use Rattle.gq_fragments.proofs.root_operation_types.add_mutations.Given as goal

abbrev pub invariant-loop-operation : goal.invariant-loop-operation
invariant-loop-operation l = l.faults.items ++ mutations (operations_view (drop l.operation-index l.operations)) ≡ l.initial.faults.items ++ mutations (operations_view l.operations)
