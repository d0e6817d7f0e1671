use Rattle.gq_rpc.proofs.Framed.{frames_cut_back}
use Rattle.gq_rpc.proofs.laws.frames_are_cut_back.Goals as goal

pub returns : goal.returns
returns c = frames_cut_back
