use Rattle.std.proofs.Common.{arith, length-drop, length, ap}
use Rattle.gq_rpc.proofs.Streams.{Reads-one}
use Rattle.gq_rpc.proofs.framer.cut_frames.Goals as goal

pub frames-preserved : goal.frames-preserved
frames-preserved c = record {
  within = omega (arith, length-drop c.frames.at c.args.text.now, ap length c.skip-rest.ensures, c.in-Whole.ensures.within.2);
  reads = Reads-one _ _ _ _ _ _ _ _ c.skip-rest.ensures c.frames.invariant.reads c.in-Whole.ensures.scan c.in-Ok.ensures.ok;
}
