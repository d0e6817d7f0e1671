use Rattle.std.proofs.Common.{◌≤◌, ◌-◌, length, drop}
use Rattle.gq_rpc.specs.Frames.{Reads, contents}
use Rattle.gq_rpc.proofs.framer.cut_frames.Given as goal

abbrev pub invariant-frames : goal.invariant-frames
invariant-frames l = record {
  within : l.at ≤ length l.text;
  reads : Reads l.text (contents l.initial.out.items) (contents l.out.items) (drop l.at l.text);
}

abbrev pub decreases-frames : goal.decreases-frames
decreases-frames l = length l.text - l.at
