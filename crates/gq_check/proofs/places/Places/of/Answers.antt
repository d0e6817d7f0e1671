use Rattle.std.proofs.Common.{All}
use Rattle.std.specs.Str.{IsCharBoundary}
use Rattle.std.specs.List.Sorted.{IsNonDecreasing}
use Rattle.std.proofs.lemmas.List.Sorted.{All-permutation}
use Rattle.gq_check.proofs.Sorting.{ascend-sorted}
use Rattle.gq_check.proofs.places.Places.of.Goals as goal

pub positions_in-requires-clause-boundaries : goal.positions_in-requires-clause-boundaries
positions_in-requires-clause-boundaries c =
    rw c.deref.ensures.value (All-permutation (IsCharBoundary c.args.text.now) c.in_ok-offsets.offsets.items c.sort_unstable.new.self.items c.sort_unstable.ensures.permutation c.in_ok-offsets.ensures)

pub positions_in-requires-clause-ascending : goal.positions_in-requires-clause-ascending
positions_in-requires-clause-ascending c = rw c.deref.ensures.value (ascend-sorted c.sort_unstable.new.self.items c.sort_unstable.ensures.sorted)

pub positions_in-requires-2-clause-boundaries : goal.positions_in-requires-2-clause-boundaries
positions_in-requires-2-clause-boundaries c =
    rw c.deref-2.ensures.value (All-permutation (IsCharBoundary c.args.text.now) c.in_ok-offsets.offsets.items c.sort_unstable.new.self.items c.sort_unstable.ensures.permutation c.in_ok-offsets.ensures)

pub positions_in-requires-2-clause-ascending : goal.positions_in-requires-2-clause-ascending
positions_in-requires-2-clause-ascending c = rw c.deref-2.ensures.value (ascend-sorted c.sort_unstable.new.self.items c.sort_unstable.ensures.sorted)
