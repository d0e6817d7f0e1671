use Rattle.std.proofs.Common.{◌≡◌, ◌++◌, drop, flat_map}
use Rattle.gq_document.specs.Definitions.{operations_view}
use Rattle.gq_spreads.specs.Helping.FragmentsMustBeUsedPlaces.{texts_of_operation}
use Rattle.gq_spreads.proofs.fragments_must_be_used.put_of_operations.Given as goal

abbrev pub invariant-loop-operation : goal.invariant-loop-operation
invariant-loop-operation l =
    l.spread ++ flat_map texts_of_operation (operations_view (drop l.operation-index l.operations)) ≡ l.initial.spread ++ flat_map texts_of_operation (operations_view l.operations)
