use Rattle.std.proofs.Common.{◌≡◌, ◌<◌, length, None}
use Rattle.std.specs.Io.KnownBytes.{Keeps}
use Rattle.gq_rpc.proofs.devices.read_retrying.Given as goal

-- the calls before this one were interrupted
abbrev pub invariant-loop : goal.invariant-loop
invariant-loop g l =
    (length l.buffer ≡ length l.initial.buffer) × Keeps (g.R.Reader.left l.initial.reader) (g.R.Reader.left l.reader) × (0 < l.counter → (before : _) × g.R.Reader.gives before None l.reader)
