use Rattle.std.proofs.Common.{◌≡◌, drop}
use Rattle.gq_desk.specs.Frames.{stop_in}
use Rattle.gq_desk.proofs.driving.find_stop.Given as goal

abbrev pub invariant-loop-out : goal.invariant-loop-out
invariant-loop-out l = record {
  same : stop_in l.outs ≡ stop_in (drop l.out-index l.outs);
}
