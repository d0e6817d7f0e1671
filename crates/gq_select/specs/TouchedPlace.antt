-- The place of the tokens that a range touches, where there is one.
use Rattle.std.specs.Prelude.{ℕ, List, Option, Some, None}
use Rattle.gq_text.specs.declared.place.Span.{Span}
use Rattle.gq_select.specs.Touched.{Touches}

abbrev pub IsTouchedPlace : List ℕ → (range : Span) → Option Span → Type 0
IsTouchedPlace text range (Some place) = Touches text range place
IsTouchedPlace text range None = (place : Span) → Touches text range place → ⊥
