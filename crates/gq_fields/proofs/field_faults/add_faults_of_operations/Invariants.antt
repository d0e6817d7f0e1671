use Rattle.std.proofs.Common.{◌≡◌, ◌++◌, drop}
use Rattle.gq_types.specs.Look.{types_view}
use Rattle.gq_document.specs.Definitions.{operations_view}
use Rattle.gq_fields.specs.Helping.FieldFaultsPlaces.{operations_faults}
use Rattle.gq_fields.proofs.field_faults.add_faults_of_operations.Given as goal

abbrev pub invariant-loop-operation : goal.invariant-loop-operation
invariant-loop-operation l = l.faults.items ++ operations_faults (types_view l.types) (operations_view (drop l.operation-index l.operations)) ≡ l.initial.faults.items ++ operations_faults (types_view l.types) (operations_view l.operations)
