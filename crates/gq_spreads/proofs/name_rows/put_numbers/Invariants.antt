use Rattle.std.proofs.Common.{◌≡◌, ◌++◌, drop}
use Rattle.gq_tree.specs.Names.{names_at}
use Rattle.gq_spreads.specs.Helping.NameRows.{first_numbers}
use Rattle.gq_spreads.proofs.name_rows.put_numbers.Given as goal

abbrev pub invariant-loop-name : goal.invariant-loop-name
invariant-loop-name l = l.row.items ++ first_numbers l.names.names.items (names_at (drop l.name-index l.spread)) ≡ l.initial.row.items ++ first_numbers l.names.names.items (names_at l.spread)
