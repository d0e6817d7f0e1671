use Rattle.std.proofs.Common.{◌≡◌, ◌++◌, drop, map}
use Rattle.gq_types.specs.Look.{types_view}
use Rattle.gq_document.specs.Definitions.{operations_view, fragments_view}
use Rattle.gq_document.specs.FieldSets.{operation_set, fragment_set}
use Rattle.gq_merging.specs.Helping.Views.{sets_at}
use Rattle.gq_merging.proofs.rows.first_sets.Given as goal

abbrev pub invariant-loop-fragment : goal.invariant-loop-fragment
invariant-loop-fragment l =
    sets_at l.sets.items ++ map fragment_set (fragments_view (drop l.fragment-index l.executable.fragments.now)) ≡ map fragment_set (fragments_view l.executable.fragments.now)

abbrev pub invariant-loop-operation : goal.invariant-loop-operation
invariant-loop-operation l =
    sets_at l.sets.items ++ map (operation_set (types_view l.executable.types.now)) (operations_view (drop l.operation-index l.executable.operations.now))
    ≡ map fragment_set (fragments_view l.executable.fragments.now) ++ map (operation_set (types_view l.executable.types.now)) (operations_view l.executable.operations.now)
