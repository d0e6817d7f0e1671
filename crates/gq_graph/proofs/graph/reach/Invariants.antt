use Rattle.std.proofs.Common.{◌-◌}
use Rattle.gq_graph.specs.Reach.{NoneTwice}
use Rattle.gq_graph.proofs.Gathering.{Sought}
use Rattle.gq_graph.proofs.graph.reach.Given as goal

abbrev pub invariant-loop-done : goal.invariant-loop-done
invariant-loop-done g l = record {
  once : NoneTwice l.found.keys;
  sought : Sought l.starts (g.G.Graph.leads l.graph) (g.G.Graph.count l.graph) l.found.keys l.done;
}

abbrev pub decreases-loop-done : goal.decreases-loop-done
decreases-loop-done g l = g.G.Graph.count l.graph - l.done
