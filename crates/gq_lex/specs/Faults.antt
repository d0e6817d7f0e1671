-- Why a text has no tokens.
use Rattle.std.specs.Prelude.{ℕ, List}
use Rattle.gq_lex.specs.declared.token.LexFault.{LexFault}
use Rattle.gq_lex.specs.declared.token.LexFault.TheVariants.{Bad, Limit, NoMemory}
use Rattle.gq_lex.specs.Tokens.{IsBadAt, IsLimitAt}

-- what stands first in a text of what keeps it from having tokens
abbrev pub IsFault : List ℕ → LexFault → Type 0
IsFault text (Bad place kind) = IsBadAt text place kind
IsFault text (Limit place) = IsLimitAt text place
IsFault text NoMemory = ⊥
