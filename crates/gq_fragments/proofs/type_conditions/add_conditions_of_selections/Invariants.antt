use Rattle.std.proofs.Common.{◌≡◌, ◌++◌, drop}
use Rattle.gq_types.specs.Look.{types_view}
use Rattle.gq_document.specs.Views.{selections_view}
use Rattle.gq_fragments.specs.Helping.FragmentPlaces.{conditions_of_selections}
use Rattle.gq_fragments.proofs.type_conditions.add_conditions_of_selections.Given as goal

abbrev pub invariant-loop-selected : goal.invariant-loop-selected
invariant-loop-selected l =
    l.faults.items ++ conditions_of_selections (types_view l.types) (selections_view (drop l.selected-index l.selections)) ≡ l.initial.faults.items ++ conditions_of_selections (types_view l.types) (selections_view l.selections)
