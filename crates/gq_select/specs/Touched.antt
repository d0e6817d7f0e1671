-- The tokens of a text that a range touches.
use Rattle.std.specs.Prelude.{◌≡◌, ℕ, ◌≤◌, ◌^◌, Bool, ◌&&◌, nat_lt, length, List, Option, Some, find}
use Rattle.std.specs.Option.{option_map}
use Rattle.gq_text.specs.declared.place.Span.{Span}
use Rattle.gq_lex.specs.Tokens.{Lexeme, Reads}
use Rattle.gq_document.specs.Last.{find_last}

-- whether the token shares a character with the range, which an empty range never does
abbrev pub is_touched : (range : Span) → Lexeme → Bool
is_touched range t = nat_lt range.start range.end && (nat_lt t.span.start range.end && nat_lt range.start t.span.end)

-- the first token that the range touches starts at the start of the place, and the last one ends at its end
pub record Touches (text : List ℕ) (range place : Span) : Type 0 where
  pub tokens : List Lexeme
  pub reads : Reads text tokens
  pub few : length tokens ≤ 2 ^ 20
  pub first : option_map (λ t. t.span.start) (find (is_touched range) tokens) ≡ Some place.start
  pub last : option_map (λ t. t.span.end) (find_last (is_touched range) tokens) ≡ Some place.end
