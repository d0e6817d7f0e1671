-- Which of a wrong token and a bracket too many is told, for private contracts.
use Rattle.std.specs.Prelude.{◌≡◌, ℕ, ◌<◌, ◌≤◌, List, Option, Some, None, nat_le, if◌then◌else◌}
use Rattle.gq_text.specs.declared.place.Span.{Span}
use Rattle.gq_lex.specs.Tokens.{Lexeme}
use Rattle.gq_tree.specs.Plain.{Def}
use Rattle.gq_parse.specs.declared.fault.Fault.{Fault}
use Rattle.gq_parse.specs.declared.fault.Fault.TheVariants.{Syntax, Limit, NoMemory}
use Rattle.gq_parse.specs.Documents.{IsDocument}
use Rattle.gq_parse.specs.Prefix.{Begins}
use Rattle.gq_parse.specs.Limits.{IsNestedWithin, IsTooDeepAt}
use Rattle.gq_parse.specs.Faults.{IsWrongAt, IsSyntaxPlace}

-- the place of the first wrong token, that of the first bracket too many, and the length of the text
abbrev pub told : Option ℕ → Option ℕ → ℕ → Fault
told (Some wrong) (Some deep) len = if nat_le wrong deep then Syntax wrong else Limit deep
told None (Some deep) len = Limit deep
told (Some wrong) None len = Syntax wrong
told None None len = Syntax len

-- where the first wrong token and the first bracket too many stand, if there are such
abbrev pub IsFirstWrong : List Lexeme → Option ℕ → Type 0
IsFirstWrong tokens None = Begins tokens
IsFirstWrong tokens (Some place) = IsWrongAt tokens place

abbrev pub IsFirstDeep : List Lexeme → Option ℕ → Type 0
IsFirstDeep tokens None = IsNestedWithin 100 tokens
IsFirstDeep tokens (Some place) = IsTooDeepAt tokens place

-- tokens are no document that nests within the limit
abbrev pub HasNone : List Lexeme → Type 0
HasNone tokens = (document : List (Def Span)) → IsDocument document tokens → IsNestedWithin 100 tokens → ⊥

-- the fault that tokens of a text of this length have
abbrev pub IsFaultIn : List Lexeme → ℕ → Fault → Type 0
IsFaultIn tokens len (Syntax place) = HasNone tokens × IsSyntaxPlace tokens len place × ((deep : ℕ) → IsTooDeepAt tokens deep → place ≤ deep)
IsFaultIn tokens len (Limit place) = HasNone tokens × IsTooDeepAt tokens place × ((wrong : ℕ) → IsWrongAt tokens wrong → place < wrong)
IsFaultIn tokens len NoMemory = Unit {0}
