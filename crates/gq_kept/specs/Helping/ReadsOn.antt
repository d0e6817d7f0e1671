-- Texts of which the one reads as the tokens as which the other does. No contract of a public call speaks of it.
use Rattle.std.specs.Prelude.{ℕ, Bool, true, false, List}
use Rattle.gq_lex.specs.Tokens.{Lexeme, Reads}
use Rattle.gq_tree.specs.Readings.{ParsedOf, tree, syntax, limit}
use Rattle.gq_laws.specs.Placing.Tokens.{ReadAlike}

-- it reads as some tokens
abbrev pub HasTokens : List ℕ → Type 0
HasTokens text = (tokens : List Lexeme) × Reads text tokens

-- where the one reads as tokens, the other reads as the same ones but for their places
abbrev pub ReadsOn : List ℕ → List ℕ → Type 0
ReadsOn text other = (tokens : List Lexeme) → Reads text tokens → ReadAlike text other

-- whether what is read is a tree
abbrev pub has_tree : ParsedOf → Bool
has_tree (tree definitions) = true
has_tree (syntax place) = false
has_tree (limit place) = false
