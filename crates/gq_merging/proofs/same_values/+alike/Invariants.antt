use Rattle.std.proofs.Common.{◌↔◌, ◌+◌, ◌*◌, IsTrue, drop, take}
use Rattle.gq_tree.specs.Forest.{row}
use Rattle.gq_tree.specs.Views.{value_view, values_view}
use Rattle.gq_merging.specs.SameArguments.{AreInOrder}
use Rattle.gq_merging.specs.Helping.Entries.{entry_seen, entries_seen}
use Rattle.gq_merging.specs.Helping.Marks.{IsAmongThese, MarksSame, AllFound}
use Rattle.gq_merging.specs.Helping.Places.{ArePlaced, places_for}
use Rattle.gq_merging.proofs.EntryLemmas.{size}
use Rattle.gq_merging.proofs.same_values.+alike.Given as goal

abbrev pub decreases-are_identical : goal.decreases-are_identical
decreases-are_identical l = 4 * size (value_view l.left.now).below + 1

abbrev pub decreases-are_in_order : goal.decreases-are_in_order
decreases-are_in_order l = 4 * size (values_view l.left.now)

abbrev pub decreases-have_same_entries : goal.decreases-have_same_entries
decreases-have_same_entries l = 4 * size (row (entries_seen l.left))

abbrev pub decreases-is_same_entry : goal.decreases-is_same_entry
decreases-is_same_entry l = 4 * size (entry_seen l.left).below + 2

abbrev pub decreases-mark_entries : goal.decreases-mark_entries
decreases-mark_entries l = 4 * size (entry_seen l.entry).below + 3

abbrev pub invariant-are_in_order-loop-i : goal.invariant-are_in_order-loop-i
invariant-are_in_order-loop-i l = AreInOrder (values_view (drop l.i l.left)) (values_view (drop l.i l.right)) ↔ AreInOrder (values_view l.left) (values_view l.right)

abbrev pub invariant-have_same_entries-loop-i : goal.invariant-have_same_entries-loop-i
invariant-have_same_entries-loop-i l = record {
  found : AllFound (take l.i (entries_seen l.left)) (entries_seen l.right) l.marks.items;
  placed : ArePlaced (entries_seen l.right) (places_for l.places);
}

abbrev pub invariant-mark_entries-loop-place : goal.invariant-mark_entries-loop-place
invariant-mark_entries-loop-place l = record {
  found : IsTrue l.found ↔ IsAmongThese (entry_seen l.entry) (entries_seen l.others) (take l.place-index l.places);
  marks : MarksSame (entry_seen l.entry) (entries_seen l.others) (take l.place-index l.places) l.fn.marks.items l.marks.items;
}
