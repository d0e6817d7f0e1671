use Rattle.std.proofs.Common.{◌≡◌, ◌++◌, drop}
use Rattle.gq_index.specs.Helping.PlacedParts.{placed_view, operations_at}
use Rattle.gq_index.proofs.spreads.are_operations.Given as goal

abbrev pub invariant-loop-one : goal.invariant-loop-one
invariant-loop-one l =
    l.marks.items ++ operations_at (placed_view (drop l.one-index l.parts)) ≡ operations_at (placed_view l.parts)
