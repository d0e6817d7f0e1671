use Rattle.std.proofs.Common.{◌-◌, length}
use Rattle.gq_graph.specs.Reach.{NoneTwice, row}
use Rattle.gq_graph.proofs.Gathering.{Sought}
use Rattle.gq_graph.proofs.rows.reach_rows.Given as goal

abbrev pub invariant-loop-done : goal.invariant-loop-done
invariant-loop-done l = record {
  once : NoneTwice l.found.keys;
  sought : Sought l.starts (row l.rows) (length l.rows) l.found.keys l.done;
}

abbrev pub decreases-loop-done : goal.decreases-loop-done
decreases-loop-done l = length l.rows - l.done
