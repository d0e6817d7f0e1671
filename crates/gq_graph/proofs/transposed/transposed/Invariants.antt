use Rattle.gq_graph.proofs.Turning.{TurnedBelow}
use Rattle.gq_graph.proofs.transposed.transposed.Given as goal

abbrev pub invariant-loop-number : goal.invariant-loop-number
invariant-loop-number l = TurnedBelow l.rows l.number l.back.items
