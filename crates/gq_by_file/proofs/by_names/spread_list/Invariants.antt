use Rattle.std.proofs.Common.{◌≡◌, ◌++◌, drop}
use Rattle.gq_by_file.specs.Helping.ByNames.{all_spreads}
use Rattle.gq_by_file.proofs.by_names.spread_list.Given as goal

abbrev pub invariant-loop-one : goal.invariant-loop-one
invariant-loop-one l = l.spread ++ all_spreads (drop l.one-index l.names) ≡ all_spreads l.names
