-- The tree of a text.
use Rattle.std.specs.Prelude.{ℕ, ◌≤◌, ◌^◌, List, length}
use Rattle.gq_text.specs.declared.place.Span.{Span}
use Rattle.gq_lex.specs.Tokens.{Lexeme, Reads}
use Rattle.gq_tree.specs.Plain.{Def}
use Rattle.gq_parse.specs.Documents.{IsDocument}
use Rattle.gq_parse.specs.Limits.{IsNestedWithin}

-- the text reads as tokens, of which there are not too many and which do not nest too deep, and the tokens are the document
pub record Derives (text : List ℕ) (document : List (Def Span)) : Type 0 where
  pub tokens : List Lexeme
  pub reads : Reads text tokens
  pub few : length tokens ≤ 2 ^ 20
  pub nested : IsNestedWithin 100 tokens
  pub derived : IsDocument document tokens
