use denote.Param.Send.{sendable}
use Rattle.std.proofs.Crossing.{crosses}
use Rattle.gq_tree.proofs.Crossing.{Parsed-send}
use Rattle.gq_rules.proofs.giving_back.+halves.Goals as goal

pub join-requires-send-F : goal.join-requires-send-F
join-requires-send-F g t c κs within = search (sendable, crosses, Parsed-send) depth 12
