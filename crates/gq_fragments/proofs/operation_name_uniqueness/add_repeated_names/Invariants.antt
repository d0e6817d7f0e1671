use Rattle.std.proofs.Common.{◌≡◌, ◌++◌, [], drop}
use Rattle.gq_document.specs.Definitions.{operations_view}
use Rattle.gq_fragments.specs.Helping.OperationPlaces.{repeated_names}
use Rattle.gq_fragments.proofs.operation_name_uniqueness.add_repeated_names.Given as goal

abbrev pub invariant-loop-operation : goal.invariant-loop-operation
invariant-loop-operation l = l.faults.items ++ repeated_names l.before (operations_view (drop l.operation-index l.operations)) ≡ l.initial.faults.items ++ repeated_names [] (operations_view l.operations)
