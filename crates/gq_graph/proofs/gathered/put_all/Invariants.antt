use Rattle.std.proofs.Common.{take}
use Rattle.gq_graph.specs.Reach.{NoneTwice}
use Rattle.gq_graph.specs.Helping.Found.{Grown}
use Rattle.gq_graph.proofs.gathered.put_all.Given as goal

abbrev pub invariant-loop-number : goal.invariant-loop-number
invariant-loop-number l = record {
  once : NoneTwice l.found.keys;
  grown : Grown (take l.number-index l.numbers) l.fn.found.keys l.found.keys;
}
