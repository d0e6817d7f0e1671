use Rattle.gq_rpc.proofs.Unique.{one_cutting}
use Rattle.gq_rpc.proofs.laws.streams_have_one_cutting.Goals as goal

pub returns : goal.returns
returns c = one_cutting
