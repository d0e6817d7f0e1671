use Rattle.std.proofs.Common.{◌≡◌, ◌++◌, drop}
use Rattle.gq_types.specs.Look.{types_view}
use Rattle.gq_document.specs.Definitions.{fragments_view}
use Rattle.gq_fragments.specs.Helping.FragmentPlaces.{conditions_of_fragments}
use Rattle.gq_fragments.proofs.type_conditions.add_conditions_of_fragments.Given as goal

abbrev pub invariant-loop-fragment : goal.invariant-loop-fragment
invariant-loop-fragment l =
    l.faults.items ++ conditions_of_fragments (types_view l.types) (fragments_view (drop l.fragment-index l.fragments)) ≡ l.initial.faults.items ++ conditions_of_fragments (types_view l.types) (fragments_view l.fragments)
