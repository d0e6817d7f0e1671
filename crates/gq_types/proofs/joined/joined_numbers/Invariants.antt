use Rattle.std.proofs.Common.{◌≡◌, ◌+◌, length}
use Rattle.gq_types.specs.Entries.{entries_view}
use Rattle.gq_types.specs.Helping.Tables.{lists_of}
use Rattle.gq_types.proofs.JoinedLemmas.{AreJoinedBelow}
use Rattle.gq_types.proofs.joined.joined_numbers.Given as goal

abbrev pub invariant-loop-number : goal.invariant-loop-number
invariant-loop-number l = (length l.lists.items ≡ l.count + 1) × (l.count ≡ length (entries_view l.definitions)) × AreJoinedBelow (entries_view l.definitions) (lists_of l.lists.items) l.number
