use Rattle.std.proofs.Common.{◌≡◌, ◌<◌, ℕ, true, false, length, get_or}
use Rattle.gq_merging.proofs.ThreadLemmas.{AreOfBoth}
use Rattle.gq_merging.proofs.groups.put_marks.Given as goal

abbrev pub invariant-loop-number : goal.invariant-loop-number
invariant-loop-number l = record {
  marked : AreOfBoth l.initial.marks.items l.others l.marks.items;
  kept : (n : ℕ) → get_or l.initial.marks.items n false ≡ true → get_or l.marks.items n false ≡ true;
  put : (n : ℕ) → n < l.number → get_or l.others n false ≡ true → get_or l.marks.items n false ≡ true;
  count : length l.marks.items ≡ length l.initial.marks.items;
}
