use Rattle.std.proofs.Common.{◌≡◌, ◌++◌, drop}
use Rattle.gq_document.specs.Definitions.{fragments_view}
use Rattle.gq_spreads.specs.Helping.FragmentsMustBeUsedPlaces.{unused_fragments}
use Rattle.gq_spreads.proofs.fragments_must_be_used.add_unspread.Given as goal

abbrev pub invariant-loop-fragment : goal.invariant-loop-fragment
invariant-loop-fragment l =
    l.faults.items ++ unused_fragments l.spread (fragments_view (drop l.fragment-index l.fragments)) ≡ l.initial.faults.items ++ unused_fragments l.spread (fragments_view l.fragments)
