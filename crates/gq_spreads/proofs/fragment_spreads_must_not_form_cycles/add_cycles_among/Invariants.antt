use Rattle.std.proofs.Common.{◌≡◌, ◌++◌, drop}
use Rattle.gq_tree.specs.Names.{names_at}
use Rattle.gq_spreads.specs.Helping.FragmentSpreadsMustNotFormCyclesPlaces.{cycles_among}
use Rattle.gq_spreads.proofs.fragment_spreads_must_not_form_cycles.add_cycles_among.Given as goal

abbrev pub invariant-loop-name : goal.invariant-loop-name
invariant-loop-name l =
    l.faults.items ++ cycles_among l.names.names.items l.components l.component l.file (names_at (drop l.name-index l.spread)) ≡ l.initial.faults.items ++ cycles_among l.names.names.items l.components l.component l.file (names_at l.spread)
