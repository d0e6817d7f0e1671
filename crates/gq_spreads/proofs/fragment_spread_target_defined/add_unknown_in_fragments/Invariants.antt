use Rattle.std.proofs.Common.{◌≡◌, ◌++◌, drop}
use Rattle.gq_document.specs.Definitions.{fragments_view}
use Rattle.gq_spreads.specs.Helping.FragmentSpreadTargetDefinedPlaces.{unknown_in_fragments}
use Rattle.gq_spreads.proofs.fragment_spread_target_defined.add_unknown_in_fragments.Given as goal

abbrev pub invariant-loop-fragment : goal.invariant-loop-fragment
invariant-loop-fragment l =
    l.faults.items ++ unknown_in_fragments l.names.names.items (fragments_view (drop l.fragment-index l.fragments)) ≡ l.initial.faults.items ++ unknown_in_fragments l.names.names.items (fragments_view l.fragments)
