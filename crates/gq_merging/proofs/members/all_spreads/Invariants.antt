use Rattle.std.proofs.Common.{◌≡◌, ◌++◌, drop, map}
use Rattle.gq_merging.proofs.members.all_spreads.Given as goal

abbrev pub invariant-loop-row : goal.invariant-loop-row
invariant-loop-row l = map (λ v. v.items) l.table.items ++ map (λ r. r.spreads.items) (drop l.row-index l.rows) ≡ map (λ r. r.spreads.items) l.rows
