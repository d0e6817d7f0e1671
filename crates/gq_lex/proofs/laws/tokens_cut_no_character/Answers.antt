use Rattle.gq_lex.proofs.Standing.{tokens_cut_no_character}
use Rattle.gq_lex.proofs.laws.tokens_cut_no_character.Goals as goal

pub returns : goal.returns
returns c = tokens_cut_no_character
