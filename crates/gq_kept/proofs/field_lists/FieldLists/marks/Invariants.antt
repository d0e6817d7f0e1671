-- the documents so far have their marks, and something is noted of each of them
use Rattle.std.proofs.Common.{◌≡◌, ◌≤◌, length}
use Rattle.gq_tree.specs.Readings.{readings_view}
use Rattle.gq_kept.specs.Helping.Selected.{AreSelected}
use Rattle.gq_kept.specs.Helping.Texts.{texts_at}
use Rattle.gq_kept.proofs.FieldListsLemmas.{AreMarkedBefore}
use Rattle.gq_kept.proofs.field_lists.FieldLists.marks.Given as goal

abbrev pub invariant-loop-file : goal.invariant-loop-file
invariant-loop-file l =
    (l.file ≤ length l.self.lists.items) × ((length l.marks.items ≡ l.file) × (AreSelected (readings_view l.readings) l.initial.self.lists.items →
    AreSelected (readings_view l.readings) l.self.lists.items × AreMarkedBefore (texts_at l.names) (readings_view l.readings) l.file l.marks.items))
