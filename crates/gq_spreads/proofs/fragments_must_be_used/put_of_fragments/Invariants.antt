use Rattle.std.proofs.Common.{◌≡◌, ◌++◌, drop, flat_map}
use Rattle.gq_document.specs.Definitions.{fragments_view}
use Rattle.gq_spreads.specs.Helping.FragmentsMustBeUsedPlaces.{texts_of_fragment}
use Rattle.gq_spreads.proofs.fragments_must_be_used.put_of_fragments.Given as goal

abbrev pub invariant-loop-fragment : goal.invariant-loop-fragment
invariant-loop-fragment l =
    l.spread ++ flat_map texts_of_fragment (fragments_view (drop l.fragment-index l.fragments)) ≡ l.initial.spread ++ flat_map texts_of_fragment (fragments_view l.fragments)
