use Rattle.std.proofs.Common.{◌≡◌, ◌++◌, drop}
use Rattle.gq_document.specs.Definitions.{fragments_view}
use Rattle.gq_spreads.specs.Helping.FragmentSpreadsMustNotFormCyclesPlaces.{fragment_cycles}
use Rattle.gq_spreads.proofs.fragment_spreads_must_not_form_cycles.add_cycles.Given as goal

abbrev pub invariant-loop-fragment : goal.invariant-loop-fragment
invariant-loop-fragment l =
    l.faults.items ++ fragment_cycles l.names.names.items l.components (fragments_view (drop l.fragment-index l.fragments)) ≡ l.initial.faults.items ++ fragment_cycles l.names.names.items l.components (fragments_view l.fragments)
