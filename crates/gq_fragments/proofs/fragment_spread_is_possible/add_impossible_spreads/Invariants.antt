use Rattle.std.proofs.Common.{◌≡◌, ◌++◌, drop}
use Rattle.gq_types.specs.Look.{types_view}
use Rattle.gq_document.specs.Definitions.{fragments_view}
use Rattle.gq_document.specs.Views.{selections_view}
use Rattle.gq_fragments.specs.Helping.FragmentPlaces.{impossible_spreads}
use Rattle.gq_fragments.specs.Helping.SharedObjectsPlaces.{AreAnswers}
use Rattle.gq_fragments.proofs.fragment_spread_is_possible.add_impossible_spreads.Given as goal

abbrev pub invariant-loop-selected : goal.invariant-loop-selected
invariant-loop-selected l = record {
  answers : AreAnswers (types_view l.executable.types.now) l.shared.answers;
  faults : l.faults.items ++ impossible_spreads (types_view l.executable.types.now) (fragments_view l.executable.fragments.now) (selections_view (drop l.selected-index l.selections))
      ≡ l.initial.faults.items ++ impossible_spreads (types_view l.executable.types.now) (fragments_view l.executable.fragments.now) (selections_view l.selections);
}
