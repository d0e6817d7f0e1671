use Rattle.gq_lex.proofs.Valued.{one_block}
use Rattle.gq_lex.proofs.laws.one_block_string_value.Goals as goal

pub returns : goal.returns
returns c = one_block
