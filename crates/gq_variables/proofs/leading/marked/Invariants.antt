use Rattle.std.proofs.Common.{◌≡◌, ◌++◌, drop, false}
use Rattle.std.specs.Prelude.{filter, slice_index_or}
use Rattle.gq_variables.proofs.leading.marked.Given as goal

abbrev pub invariant-loop-number : goal.invariant-loop-number
invariant-loop-number l =
    l.kept.items ++ filter (λ n. slice_index_or l.marks n false) (drop l.number-index l.numbers) ≡ filter (λ n. slice_index_or l.marks n false) l.numbers
