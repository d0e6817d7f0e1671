use Rattle.std.proofs.Common.{◌≡◌, take, length}
use Rattle.gq_graph.specs.Transposed.{Put}
use Rattle.gq_graph.proofs.transposed.put_all.Given as goal

abbrev pub invariant-loop-place : goal.invariant-loop-place
invariant-loop-place l = record {
  put : Put (take l.place-index l.places) l.number l.initial.rows.items l.rows.items;
  count : length l.rows.items ≡ length l.initial.rows.items;
}
