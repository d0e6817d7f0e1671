use Rattle.std.proofs.Common.{◌≡◌, ◌+◌, length, None}
use Rattle.gq_rpc.specs.Lines.{head_of, ended_lines}
use Rattle.gq_rpc.proofs.header.read_head.Given as goal

abbrev pub invariant-lines : goal.invariant-lines
invariant-lines l = record {
  whole : l.size + length l.rest ≡ length l.text;
  same : head_of l.size l.found (ended_lines l.rest) ≡ head_of 0 None (ended_lines l.text);
}

abbrev pub decreases-lines : goal.decreases-lines
decreases-lines l = length l.rest
