use Rattle.gq_lex.proofs.Valued.{token_string}
use Rattle.gq_lex.proofs.laws.strings_have_values.Goals as goal

pub returns : goal.returns
returns c = λ text after token. ((token_string token).value, (token_string token).is)
