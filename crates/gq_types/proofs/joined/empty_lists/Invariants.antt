use Rattle.std.proofs.Common.{◌≡◌, ℕ, [], length, get_or}
use Rattle.gq_types.specs.Helping.Tables.{lists_of}
use Rattle.gq_types.proofs.joined.empty_lists.Given as goal

abbrev pub invariant-loop-number : goal.invariant-loop-number
invariant-loop-number l = (length l.lists.items ≡ l._number) × ((k : ℕ) → get_or (lists_of l.lists.items) k [] ≡ [])
