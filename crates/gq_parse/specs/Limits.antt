-- How deep brackets may nest.
use Rattle.std.specs.Prelude.{◌≡◌, ℕ, ◌+◌, ◌≤◌, Bool, true, false, List, [], ◌∷◌, ◌++◌, take, count_by, ◌⊎◌}
use Rattle.gq_lex.specs.declared.token.Kind.{Kind}
use Rattle.gq_lex.specs.declared.token.Kind.TheVariants.{BraceOpen, BraceClose, BracketOpen, BracketClose}
use Rattle.gq_lex.specs.Tokens.{Lexeme, Reads, IsLimitAt}

-- `{` and `[`
abbrev pub opens : Kind → Bool
opens BraceOpen = true
opens BracketOpen = true
opens _ = false

-- `}` and `]`
abbrev pub closes : Kind → Bool
closes BraceClose = true
closes BracketClose = true
closes _ = false

-- how many tokens open, and how many close
abbrev pub opened : List Lexeme → ℕ
opened tokens = count_by (λ t. opens t.kind) tokens

abbrev pub closed : List Lexeme → ℕ
closed tokens = count_by (λ t. closes t.kind) tokens

-- at every front of the tokens at most so many more have opened than have closed
abbrev pub IsNestedWithin : ℕ → List Lexeme → Type 0
IsNestedWithin most tokens = (n : ℕ) → opened (take n tokens) ≤ closed (take n tokens) + most

-- the token that opens level 101 begins at this place
pub record IsTooDeepAt (tokens : List Lexeme) (place : ℕ) : Type 0 where
  pub before : List Lexeme
  pub token : Lexeme
  pub after : List Lexeme
  pub cut : tokens ≡ before ++ token ∷ after
  pub within : IsNestedWithin 100 before
  pub passes : IsNestedWithin 100 (before ++ token ∷ []) → ⊥
  pub at : token.span.start ≡ place

-- the text has more than 2 ^ 20 tokens, or they nest deeper than 100, and what is one too many begins at this place
abbrev pub PassesLimitAt : List ℕ → ℕ → Type 0
PassesLimitAt text place = IsLimitAt text place ⊎ ((tokens : List Lexeme) × Reads text tokens × IsTooDeepAt tokens place)
