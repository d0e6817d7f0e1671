use Rattle.std.proofs.Common.{◌<◌, None}
use Rattle.std.specs.Io.KnownBytes.{Keeps}
use Rattle.gq_rpc.proofs.devices.write_retrying.Given as goal

-- the calls before this one were interrupted
abbrev pub invariant-loop : goal.invariant-loop
invariant-loop g l = Keeps (g.W.Writer.held l.initial.writer) (g.W.Writer.held l.writer) × (0 < l.counter → (before : _) × g.W.Writer.gives before None l.writer)
