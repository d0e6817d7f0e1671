use Rattle.std.proofs.Common.{◌<◌, length, take}
use Rattle.std.specs.Prelude.{All}
use Rattle.gq_graph.proofs.rows.is_in_range.Given as goal

abbrev pub invariant-loop-row : goal.invariant-loop-row
invariant-loop-row l = All (λ v. All (λ n. n < length l.rows) v.items) (take l.row-index l.rows)
