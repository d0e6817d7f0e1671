use Rattle.std.proofs.Common.{◌≡◌, drop}
use Rattle.std.specs.List.{list_any}
use Rattle.gq_types.specs.Look.{types_view}
use Rattle.gq_types.specs.LookUps.{texts_of}
use Rattle.gq_fragments.specs.Helping.FragmentPlaces.{is_impossible}
use Rattle.gq_fragments.specs.Helping.SharedObjectsPlaces.{AreAnswers}
use Rattle.gq_fragments.proofs.fragment_spread_is_possible.is_one_impossible.Given as goal

abbrev pub invariant-loop-condition : goal.invariant-loop-condition
invariant-loop-condition l = record {
  answers : AreAnswers (types_view l.types) l.shared.answers;
  found : list_any (is_impossible (types_view l.types) l.parent) (texts_of (drop l.condition-index l.conditions)) ≡ list_any (is_impossible (types_view l.types) l.parent) (texts_of l.conditions);
}
