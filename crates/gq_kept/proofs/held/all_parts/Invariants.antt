-- what is kept of the documents so far, and something is noted of each of them
use Rattle.std.proofs.Common.{◌≡◌, ◌≤◌, length, map, take}
use Rattle.gq_tree.specs.Readings.{readings_view}
use Rattle.gq_index.specs.Parts.{parts_in}
use Rattle.gq_index.specs.Views.{parts_shared}
use Rattle.gq_kept.specs.Helping.Held.{AreHeld}
use Rattle.gq_kept.proofs.held.all_parts.Given as goal

abbrev pub invariant-loop-file : goal.invariant-loop-file
invariant-loop-file l =
    (l.file ≤ length l.noted.notes.items) × (AreHeld (readings_view l.readings) l.initial.noted.notes.items →
    AreHeld (readings_view l.readings) l.noted.notes.items × (parts_shared l.all.items ≡ map parts_in (take l.file (readings_view l.readings))))
