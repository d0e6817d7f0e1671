use Rattle.std.proofs.Common.{refl}
use Rattle.gq_lex.specs.Values.{block_value}
use Rattle.gq_lex.proofs.Valued.{token_block, block_is}
use Rattle.gq_lex.proofs.laws.block_strings_have_values.Goals as goal

pub returns : goal.returns
returns c = λ text after token. (block_value (token_block token).raw, block_is (block_value (token_block token).raw) (token_block token).is refl)
