use Rattle.std.proofs.Common.{◌≡◌, All, [], length}
use Rattle.gq_graph.proofs.transposed.empty_rows.Given as goal

abbrev pub invariant-loop : goal.invariant-loop
invariant-loop l = record { count : length l.rows.items ≡ l.counter; empty : All (λ v. v.items ≡ []) l.rows.items }
