-- The tokens of the code, as the grammar sees them. Only contracts of private functions speak of these.
use Rattle.std.specs.Prelude.{ℕ, List, map, drop}
use Rattle.gq_lex.specs.declared.token.Token.{Token}
use Rattle.gq_lex.specs.Tokens.{lexeme_of}
use Rattle.gq_parse.specs.Grammar.{Tokens}

-- the tokens from an index on
abbrev pub from : List Token → ℕ → Tokens
from tokens at = map lexeme_of (drop at tokens)
