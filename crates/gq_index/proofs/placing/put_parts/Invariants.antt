use Rattle.std.proofs.Common.{◌≡◌, ◌++◌, List, Some, drop}
use Rattle.std.specs.Prelude.{slice_get}
use Rattle.gq_index.specs.declared.parts.Parts.{Parts}
use Rattle.gq_index.specs.Helping.PlacedParts.{placed_view, placed}
use Rattle.gq_index.specs.Helping.Seats.{AreFound}
use Rattle.gq_index.specs.Views.{parts_view}
use Rattle.gq_index.proofs.placing.put_parts.Given as goal

abbrev pub invariant-loop-offset : goal.invariant-loop-offset
invariant-loop-offset l =
    (placed_view l.all.items ++ placed l.file (parts_view (drop l.offset l.parts)) ≡ placed_view l.initial.all.items ++ placed l.file (parts_view l.parts))
    × ((kept : List Parts) (one : Parts) → slice_get kept l.file ≡ Some one → one.parts.items ≡ l.parts → AreFound kept l.initial.all.items → AreFound kept l.all.items)
