-- Why a text has no tree, and the place where that is told.
use Rattle.std.specs.Prelude.{◌≡◌, ℕ, ◌<◌, ◌≤◌, ◌^◌, List, length, drop, ◌⊎◌}
use Rattle.gq_text.specs.declared.place.Span.{Span}
use Rattle.gq_lex.specs.declared.token.BadKind.{BadKind}
use Rattle.gq_lex.specs.Tokens.{Lexeme, Reads, IsBadAt, IsLimitAt}
use Rattle.gq_tree.specs.Plain.{Def}
use Rattle.gq_parse.specs.Grammar.{starts}
use Rattle.gq_parse.specs.Documents.{IsDocument}
use Rattle.gq_parse.specs.Prefix.{Begins, IsSyntaxAt}
use Rattle.gq_parse.specs.Limits.{IsTooDeepAt}

-- the first token with which the tokens so far begin no document begins at this place
abbrev pub IsWrongAt : List Lexeme → ℕ → Type 0
IsWrongAt tokens place = (i : ℕ) × IsSyntaxAt tokens i × (starts (drop i tokens) ≡ place)

-- all tokens begin a document, and they are none: more are wanted
pub record IsUnfinished (tokens : List Lexeme) : Type 0 where
  pub begins : Begins tokens
  pub none : (document : List (Def Span)) → IsDocument document tokens → ⊥

-- the place of a syntax fault in the tokens of a text of this length: of the first wrong token, or the end of the text
abbrev pub IsSyntaxPlace : List Lexeme → ℕ → ℕ → Type 0
IsSyntaxPlace tokens len place = IsWrongAt tokens place ⊎ (IsUnfinished tokens × (place ≡ len))

-- A syntax fault: no token can be read at this place; or the fault of the tokens is there, and no bracket before it opens a
-- level too deep.
abbrev pub IsSyntaxFault : List ℕ → ℕ → Type 0
IsSyntaxFault text place =
    ((kind : BadKind) × IsBadAt text place kind)
    ⊎ ((tokens : List Lexeme) × Reads text tokens × (length tokens ≤ 2 ^ 20) × IsSyntaxPlace tokens (length text) place × ((deep : ℕ) → IsTooDeepAt tokens deep → place ≤ deep))

-- A limit is passed: by a token too many at this place; or by the bracket at this place, and no token up to it is wrong.
abbrev pub IsLimitFault : List ℕ → ℕ → Type 0
IsLimitFault text place =
    IsLimitAt text place
    ⊎ ((tokens : List Lexeme) × Reads text tokens × (length tokens ≤ 2 ^ 20) × IsTooDeepAt tokens place × ((wrong : ℕ) → IsWrongAt tokens wrong → place < wrong))
