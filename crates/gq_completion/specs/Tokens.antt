-- Where in the tokens of a text an offset stands, in bytes.
use Rattle.std.specs.Prelude.{◌≡◌, ◌≢◌, ℕ, Bool, true, false, ◌&&◌, nat_lt, nat_le, List, ◌∷◌, ◌++◌, Option, Some, find}
use Rattle.std.specs.Option.{option_map, option_map_or}
use Rattle.gq_document.specs.Last.{find_last}
use Rattle.gq_lex.specs.declared.token.Kind.{Kind}
use Rattle.gq_lex.specs.declared.token.Kind.TheVariants.{Name, Dollar, Spread}
use Rattle.gq_lex.specs.Tokens.{Lexeme}
use Rattle.gq_completion.specs.declared.completion.CompletionKind.{CompletionKind}
use Rattle.gq_completion.specs.declared.completion.CompletionKind.TheVariants as completion

abbrev pub is_name : Kind → Bool
is_name Name = true
is_name _ = false

-- a name (section 2.1.9) that begins before the offset and does not end before it
abbrev pub is_typed_at : ℕ → Lexeme → Bool
is_typed_at i t = is_name t.kind && (nat_lt t.span.start i && nat_le i t.span.end)

-- where what is typed at the offset begins: at the start of that name, else at the offset
abbrev pub typed_from : List Lexeme → ℕ → ℕ
typed_from tokens i = option_map_or (λ t. t.span.start) (find (is_typed_at i) tokens) i

-- the token before it: the last one that ends there or before
abbrev pub token_before : List Lexeme → ℕ → Option Lexeme
token_before tokens i = find_last (λ t. nat_le t.span.end (typed_from tokens i)) tokens

-- What is typed behind a token: behind `...` the name of a fragment (section 2.8.1), behind `$` that of a variable
-- (section 2.10), else that of a field (section 2.5).
abbrev pub kind_behind : Kind → CompletionKind
kind_behind Spread = completion.Fragment
kind_behind Dollar = completion.Variable
kind_behind _ = completion.Field

abbrev pub kind_at : List Lexeme → ℕ → CompletionKind
kind_at tokens i = option_map_or (λ t. kind_behind t.kind) (token_before tokens i) completion.Field

-- the name right behind a `$` of the text, another one than that before what is typed
pub record IsOtherVariable (tokens : List Lexeme) (i : ℕ) (label : List ℕ) : Type 0 where
  pub front : List Lexeme
  pub dollar : Lexeme
  pub name : Lexeme
  pub back : List Lexeme
  pub cut : tokens ≡ front ++ dollar ∷ name ∷ back
  pub is_dollar : dollar.kind ≡ Dollar
  pub is_name : name.kind ≡ Name
  pub other : option_map (λ t. t.span.start) (token_before tokens i) ≢ Some dollar.span.start
  pub is : label ≡ name.text
