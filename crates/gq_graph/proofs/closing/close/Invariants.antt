use Rattle.std.proofs.Common.{◌-◌, length, drop}
use Rattle.gq_graph.specs.Reach.{row}
use Rattle.gq_graph.proofs.Searching.{Search, Longer}
use Rattle.gq_graph.proofs.closing.close.Given as goal

abbrev pub invariant-loop-done : goal.invariant-loop-done
invariant-loop-done l = record {
  search : Search (drop l.fn.done l.fn.found.numbers.items) (row l.rows) (length l.rows) l.fn.done l.found.marks.items l.found.numbers.items l.done;
  longer : Longer l.fn.found.numbers.items l.found.numbers.items;
}

abbrev pub decreases-loop-done : goal.decreases-loop-done
decreases-loop-done l = length l.rows - l.done
