use Rattle.std.proofs.Common.{length}
use Rattle.gq_graph.proofs.Grouping.{Groups}
use Rattle.gq_graph.proofs.strongly_connected.components.Given as goal

abbrev pub invariant-loop-number : goal.invariant-loop-number
invariant-loop-number l = Groups l.rows l.back.items l.order.items l.found.marks.items l.found.numbers.items l.components.items

abbrev pub decreases-loop-number : goal.decreases-loop-number
decreases-loop-number l = length l.order.items
