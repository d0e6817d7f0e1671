use Rattle.std.proofs.Common.{◌≡◌, ◌++◌, drop, flat_map}
use Rattle.gq_types.specs.Look.{types_view}
use Rattle.gq_document.specs.Definitions.{fragments_view}
use Rattle.gq_document.specs.Selections.{fragment_selections}
use Rattle.gq_document.specs.Views.{selections_view}
use Rattle.gq_fragments.specs.Helping.FragmentPlaces.{of_fragments}
use Rattle.gq_fragments.proofs.selections.put_of_fragments.Given as goal

abbrev pub invariant-loop-fragment : goal.invariant-loop-fragment
invariant-loop-fragment l =
    selections_view l.all.items ++ of_fragments (flat_map (fragment_selections (types_view l.types)) (fragments_view (drop l.fragment-index l.fragments))) ≡ selections_view l.initial.all.items ++ of_fragments (flat_map (fragment_selections (types_view l.types)) (fragments_view l.fragments))
