use Rattle.std.proofs.Common.{◌≡◌, ◌++◌, drop}
use Rattle.gq_tree.specs.Names.{names_at}
use Rattle.gq_spreads.specs.Helping.FragmentSpreadTargetDefinedPlaces.{unknown_among}
use Rattle.gq_spreads.proofs.fragment_spread_target_defined.add_unknown_among.Given as goal

abbrev pub invariant-loop-name : goal.invariant-loop-name
invariant-loop-name l = l.faults.items ++ unknown_among l.names.names.items l.file (names_at (drop l.name-index l.spread)) ≡ l.initial.faults.items ++ unknown_among l.names.names.items l.file (names_at l.spread)
