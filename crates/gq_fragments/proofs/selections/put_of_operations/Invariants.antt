use Rattle.std.proofs.Common.{◌≡◌, ◌++◌, drop, flat_map}
use Rattle.gq_types.specs.Look.{types_view}
use Rattle.gq_document.specs.Definitions.{operations_view}
use Rattle.gq_document.specs.Selections.{operation_selections}
use Rattle.gq_document.specs.Views.{selections_view}
use Rattle.gq_fragments.specs.Helping.FragmentPlaces.{of_fragments}
use Rattle.gq_fragments.proofs.selections.put_of_operations.Given as goal

abbrev pub invariant-loop-operation : goal.invariant-loop-operation
invariant-loop-operation l =
    selections_view l.all.items ++ of_fragments (flat_map (operation_selections (types_view l.types)) (operations_view (drop l.operation-index l.operations))) ≡ selections_view l.initial.all.items ++ of_fragments (flat_map (operation_selections (types_view l.types)) (operations_view l.operations))
