use Rattle.std.proofs.Common.{rules}
use Rattle.gq_rpc.proofs.Sends.{Half-more}
use Rattle.gq_rpc.proofs.devices.send.Goals as goal

pub writes-preserved : goal.writes-preserved
writes-preserved g c = record {
  half = Half-more _ _ _ _ _ _ _ c.writes.invariant.half c.in-Some.ensures.put c.skip-rest.ensures;
  works = search rules;
}
