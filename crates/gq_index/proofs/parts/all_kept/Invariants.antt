-- the documents so far have their parts
use Rattle.std.proofs.Common.{◌≡◌, map, take}
use Rattle.gq_tree.specs.Readings.{readings_view}
use Rattle.gq_index.specs.Parts.{parts_in}
use Rattle.gq_index.specs.Views.{parts_shared}
use Rattle.gq_index.proofs.parts.all_kept.Given as goal

abbrev pub invariant-loop-reading : goal.invariant-loop-reading
invariant-loop-reading l = parts_shared l.all.items ≡ map parts_in (readings_view (take l.reading-index l.readings))
