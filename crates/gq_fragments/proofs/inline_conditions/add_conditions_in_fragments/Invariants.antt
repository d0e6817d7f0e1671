use Rattle.std.proofs.Common.{◌≡◌, ◌++◌, drop, flat_map}
use Rattle.gq_types.specs.Look.{types_view}
use Rattle.gq_document.specs.Definitions.{fragments_view}
use Rattle.gq_fragments.specs.Helping.FragmentPlaces.{conditions_in_fragment}
use Rattle.gq_fragments.proofs.inline_conditions.add_conditions_in_fragments.Given as goal

abbrev pub invariant-loop-fragment : goal.invariant-loop-fragment
invariant-loop-fragment l =
    l.faults.items ++ flat_map (conditions_in_fragment (types_view l.types)) (fragments_view (drop l.fragment-index l.fragments)) ≡ l.initial.faults.items ++ flat_map (conditions_in_fragment (types_view l.types)) (fragments_view l.fragments)
