use Rattle.gq_laws.proofs.Placing.SameTokens.{define_alike}
use Rattle.gq_laws.proofs.places.same_tokens_define_alike.Goals as goal

pub returns : goal.returns
returns c = define_alike
