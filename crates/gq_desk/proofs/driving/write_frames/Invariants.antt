use Rattle.std.proofs.Common.{◌≡◌, ◌++◌, drop}
use Rattle.gq_desk.specs.Frames.{frames_in}
use Rattle.gq_desk.proofs.driving.write_frames.Given as goal

abbrev pub invariant-loop-out : goal.invariant-loop-out
invariant-loop-out l = record {
  all : l.bytes.items ++ frames_in (drop l.out-index l.outs) ≡ frames_in l.outs;
}
