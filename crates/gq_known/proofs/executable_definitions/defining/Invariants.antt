use Rattle.std.proofs.Common.{◌≡◌, ◌<◌, ◌⊎◌, true, false, Contains, drop, length, slice_index_or}
use Rattle.gq_types.specs.Entries.{EntryOf, entries_view}
use Rattle.gq_known.proofs.executable_definitions.defining.Given as goal

-- each of the entries is still to come, or its document is marked
abbrev pub invariant-loop-entry : goal.invariant-loop-entry
invariant-loop-entry l =
    (length l.marks.items ≡ l.count)
    × ((e : EntryOf) → Contains (entries_view l.entries) e → e.file < l.count →
    Contains (entries_view (drop l.entry-index l.entries)) e ⊎ (slice_index_or l.marks.items e.file false ≡ true))
