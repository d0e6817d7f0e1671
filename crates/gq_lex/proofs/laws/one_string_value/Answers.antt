use Rattle.gq_lex.proofs.Valued.{one_string}
use Rattle.gq_lex.proofs.laws.one_string_value.Goals as goal

pub returns : goal.returns
returns c = one_string
