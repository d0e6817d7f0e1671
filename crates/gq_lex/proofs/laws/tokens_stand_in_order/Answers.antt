use Rattle.gq_lex.proofs.Standing.{tokens_stand}
use Rattle.gq_lex.proofs.laws.tokens_stand_in_order.Goals as goal

pub returns : goal.returns
returns c = tokens_stand
