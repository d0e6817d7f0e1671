use Rattle.gq_rpc.proofs.Escapes.{contains_others}
use Rattle.gq_rpc.proofs.laws.others_are_escaped.Goals as goal

pub returns : goal.returns
returns c = contains_others
