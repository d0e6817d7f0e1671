use Rattle.std.proofs.Common.{◌≡◌, ◌++◌, drop}
use Rattle.std.specs.List.{flat_map}
use Rattle.gq_graph.specs.Reach.{row}
use Rattle.gq_merging.proofs.parts.in_rows.Given as goal

abbrev pub invariant-loop-number : goal.invariant-loop-number
invariant-loop-number l = l.found.items ++ flat_map (row l.table) (drop l.number-index l.numbers) ≡ flat_map (row l.table) l.numbers
