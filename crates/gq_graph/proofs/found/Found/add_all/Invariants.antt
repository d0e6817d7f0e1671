use Rattle.std.proofs.Common.{◌≡◌, take, length}
use Rattle.gq_graph.specs.Helping.Found.{Marked, Grown}
use Rattle.gq_graph.proofs.found.Found.add_all.Given as goal

abbrev pub invariant-loop-number : goal.invariant-loop-number
invariant-loop-number l = record {
  marked : Marked l.self.marks.items l.self.numbers.items;
  grown : Grown (take l.number-index l.numbers) l.fn.self.numbers.items l.self.numbers.items;
  count : length l.self.marks.items ≡ length l.initial.self.marks.items;
}
