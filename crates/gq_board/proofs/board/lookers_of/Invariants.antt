use Rattle.std.proofs.Common.{◌≡◌, ◌≤◌, ◌-◌, length}
use Rattle.std.specs.List.{AllByRecursion}
use Rattle.gq_board.proofs.board.lookers_of.Given as goal

abbrev pub invariant-loop-lookers : goal.invariant-loop-lookers
invariant-loop-lookers g l = record {
  room : length l.lookers.items ≤ 8;
  same : AllByRecursion (λ k. k ≡ l.front.0) l.lookers.items;
}

abbrev pub decreases-loop-lookers : goal.decreases-loop-lookers
decreases-loop-lookers g l = 8 - length l.lookers.items
