use Rattle.std.proofs.Common.{◌≡◌, ◌++◌, drop, false, map}
use Rattle.std.specs.Prelude.{filter, slice_index_or}
use Rattle.gq_variables.proofs.leading.marked_rows.Given as goal

abbrev pub invariant-loop-row : goal.invariant-loop-row
invariant-loop-row l =
    map (λ v. v.items) l.kept.items ++ map (λ v. filter (λ n. slice_index_or l.marks n false) v.items) (drop l.row-index l.rows) ≡ map (λ v. filter (λ n. slice_index_or l.marks n false) v.items) l.rows
