use Rattle.std.proofs.Common.{◌≡◌, take, length}
use Rattle.gq_graph.specs.Helping.Mutual.{Assigned}
use Rattle.gq_graph.proofs.strongly_connected.assign.Given as goal

abbrev pub invariant-loop-number : goal.invariant-loop-number
invariant-loop-number l = record {
  assigned : Assigned (take l.number-index l.numbers) l.component l.initial.components.items l.components.items;
  count : length l.components.items ≡ length l.initial.components.items;
}
