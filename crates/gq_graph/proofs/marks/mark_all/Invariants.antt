use Rattle.std.proofs.Common.{◌≡◌, take, length}
use Rattle.gq_graph.specs.Components.{Also}
use Rattle.gq_graph.proofs.marks.mark_all.Given as goal

abbrev pub invariant-loop-number : goal.invariant-loop-number
invariant-loop-number l = record {
  also : Also (take l.number-index l.numbers) l.initial.marks.items l.marks.items;
  count : length l.marks.items ≡ length l.initial.marks.items;
}
