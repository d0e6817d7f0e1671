use Rattle.std.proofs.Common.{◌≡◌, ◌++◌, drop, map}
use Rattle.gq_table.specs.Views.{value_view, entry_view}
use Rattle.gq_table.proofs.values.+copied.Given as goal

abbrev pub invariant-copied_items-loop-item : goal.invariant-copied_items-loop-item
invariant-copied_items-loop-item l = map value_view l.copies.items ++ map value_view (drop l.item-index l.items) ≡ map value_view l.items

abbrev pub invariant-copied_entries-loop-entry : goal.invariant-copied_entries-loop-entry
invariant-copied_entries-loop-entry l = map entry_view l.copies.items ++ map entry_view (drop l.entry-index l.entries) ≡ map entry_view l.entries
