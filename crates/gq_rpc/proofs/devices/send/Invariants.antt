use Rattle.std.proofs.Common.{◌≡◌, length, false}
use Rattle.gq_rpc.proofs.Sends.{Half}
use Rattle.gq_rpc.proofs.devices.send.Given as goal

abbrev pub invariant-writes : goal.invariant-writes
invariant-writes g l = record {
  half : Half (g.K.Sink.held l.initial.sink) (g.K.Sink.held l.sink) l.bytes l.rest;
  works : g.K.Sink.failed l.sink ≡ false;
}

abbrev pub decreases-writes : goal.decreases-writes
decreases-writes g l = length l.rest
