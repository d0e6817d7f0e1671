-- Which lists of tokens begin a document, of whatever depth.
use Rattle.std.specs.Prelude.{ℕ, suc, ◌<◌, List, ◌++◌, take, length}
use Rattle.gq_text.specs.declared.place.Span.{Span}
use Rattle.gq_tree.specs.Plain.{Def}
use Rattle.gq_parse.specs.Grammar.{Tokens}
use Rattle.gq_parse.specs.Documents.{IsDocument}

-- Some document begins with these tokens.
pub record Begins (front : Tokens) : Type 0 where
  pub more : Tokens
  pub definitions : List (Def Span)
  pub whole : IsDocument definitions (front ++ more)

-- The token at i is the first with which the tokens so far begin no document.
pub record IsSyntaxAt (tokens : Tokens) (i : ℕ) : Type 0 where
  pub within : i < length tokens
  pub before : Begins (take i tokens)
  pub with_it : Begins (take (suc i) tokens) → ⊥
