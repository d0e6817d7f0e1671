use Rattle.std.proofs.Common.{◌≡◌, ◌++◌, drop, flat_map}
use Rattle.gq_types.specs.Look.{types_view}
use Rattle.gq_document.specs.Definitions.{operations_view}
use Rattle.gq_variables.specs.Helping.VariablePlaces.{definition_faults_of}
use Rattle.gq_variables.proofs.definition_faults.add_definition_faults_of_all.Given as goal

abbrev pub invariant-loop-operation : goal.invariant-loop-operation
invariant-loop-operation l =
    l.faults.items ++ flat_map (definition_faults_of (types_view l.types)) (operations_view (drop l.operation-index l.operations))
    ≡ l.initial.faults.items ++ flat_map (definition_faults_of (types_view l.types)) (operations_view l.operations)
