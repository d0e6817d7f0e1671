use Rattle.std.specs.Str.{IsCharBoundary}
use Rattle.std.proofs.lemmas.List.Sorted.{All-permutation}
use Rattle.gq_replies.proofs.Sorting.{ascend-sorted}
use Rattle.gq_replies.proofs.places.Places.of.Goals as goal

pub positions_in-requires-clause-boundaries : goal.positions_in-requires-clause-boundaries
positions_in-requires-clause-boundaries c =
    rw c.deref.ensures.value (All-permutation (IsCharBoundary c.args.text.now) c.in_ok-offsets.offsets.items c.sort_unstable.new.self.items c.sort_unstable.ensures.permutation c.in_ok-offsets.ensures)

pub positions_in-requires-clause-ascending : goal.positions_in-requires-clause-ascending
positions_in-requires-clause-ascending c = rw c.deref.ensures.value (ascend-sorted c.sort_unstable.new.self.items c.sort_unstable.ensures.sorted)
