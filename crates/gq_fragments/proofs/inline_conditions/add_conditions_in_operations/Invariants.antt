use Rattle.std.proofs.Common.{◌≡◌, ◌++◌, drop, flat_map}
use Rattle.gq_types.specs.Look.{types_view}
use Rattle.gq_document.specs.Definitions.{operations_view}
use Rattle.gq_fragments.specs.Helping.FragmentPlaces.{conditions_in_operation}
use Rattle.gq_fragments.proofs.inline_conditions.add_conditions_in_operations.Given as goal

abbrev pub invariant-loop-operation : goal.invariant-loop-operation
invariant-loop-operation l =
    l.faults.items ++ flat_map (conditions_in_operation (types_view l.types)) (operations_view (drop l.operation-index l.operations)) ≡ l.initial.faults.items ++ flat_map (conditions_in_operation (types_view l.types)) (operations_view l.operations)
