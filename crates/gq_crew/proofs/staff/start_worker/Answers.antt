use denote.Param.Send.{sendable}
use Rattle.std.proofs.Crossing.{crosses}
use Rattle.gq_crew.proofs.Crossing.{Hire-send}
use Rattle.gq_crew.proofs.staff.start_worker.Goals as goal

pub spawn-requires-send-F : goal.spawn-requires-send-F
spawn-requires-send-F g c κs within = search (sendable, crosses, Hire-send) depth 16
