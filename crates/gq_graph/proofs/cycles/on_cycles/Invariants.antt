use Rattle.std.proofs.Common.{length}
use Rattle.gq_graph.proofs.Collecting.{Components}
use Rattle.gq_graph.proofs.cycles.on_cycles.Given as goal

abbrev pub invariant-loop-number : goal.invariant-loop-number
invariant-loop-number l = Components l.rows l.back.items l.order.items l.found.marks.items l.found.numbers.items l.marks.items

abbrev pub decreases-loop-number : goal.decreases-loop-number
decreases-loop-number l = length l.order.items
