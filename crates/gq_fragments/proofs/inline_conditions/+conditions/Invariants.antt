use Rattle.std.proofs.Common.{◌≡◌, ◌++◌, drop}
use Rattle.std.specs.Prelude.{flat_map}
use Rattle.gq_tree.specs.Forest.{labels}
use Rattle.gq_tree.specs.Views.{sels_view}
use Rattle.gq_types.specs.Look.{types_view}
use Rattle.gq_fragments.specs.Helping.FragmentPlaces.{conditions_in}
use Rattle.gq_fragments.proofs.inline_conditions.+conditions.Given as goal

abbrev pub invariant-add_conditions_among-loop-selection : goal.invariant-add_conditions_among-loop-selection
invariant-add_conditions_among-loop-selection l =
    l.faults.items ++ flat_map (conditions_in (types_view l.types) l.file) (labels (sels_view (drop l.selection-index l.all)))
    ≡ l.initial.faults.items ++ flat_map (conditions_in (types_view l.types) l.file) (labels (sels_view l.all))
