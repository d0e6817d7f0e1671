use Rattle.std.proofs.Common.{◌≡◌, ◌++◌, drop}
use Rattle.std.specs.List.{flat_map}
use Rattle.gq_merging.specs.Helping.SetTables.{members_at}
use Rattle.gq_merging.specs.Helping.Views.{members_view, rows_view}
use Rattle.gq_merging.proofs.members.gathered.Given as goal

abbrev pub invariant-loop-number : goal.invariant-loop-number
invariant-loop-number l = members_view l.members.items ++ flat_map (members_at (rows_view l.rows)) (drop l.number-index l.numbers) ≡ flat_map (members_at (rows_view l.rows)) l.numbers
