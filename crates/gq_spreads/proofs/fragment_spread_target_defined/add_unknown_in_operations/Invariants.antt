use Rattle.std.proofs.Common.{◌≡◌, ◌++◌, drop}
use Rattle.gq_document.specs.Definitions.{operations_view}
use Rattle.gq_spreads.specs.Helping.FragmentSpreadTargetDefinedPlaces.{unknown_in_operations}
use Rattle.gq_spreads.proofs.fragment_spread_target_defined.add_unknown_in_operations.Given as goal

abbrev pub invariant-loop-operation : goal.invariant-loop-operation
invariant-loop-operation l =
    l.faults.items ++ unknown_in_operations l.names.names.items (operations_view (drop l.operation-index l.operations)) ≡ l.initial.faults.items ++ unknown_in_operations l.names.names.items (operations_view l.operations)
