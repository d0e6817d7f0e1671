-- The order of positions, and that offsets follow it.
use Rattle.std.specs.Prelude.{◌≡◌, ◌<◌, ◌≤◌, ◌⊎◌, List, ℕ}
use Rattle.gq_text.specs.declared.place.Position.{Position}
use Rattle.gq_text.specs.declared.place.PositionEncoding.{PositionEncoding}
use Rattle.gq_text.specs.Place.{off}

-- p stands on an earlier line than q, or on the same line and at no later character
abbrev pub IsAtOrBefore : Position → Position → Type 0
IsAtOrBefore p q = (p.line < q.line) ⊎ ((p.line ≡ q.line) × (p.character ≤ q.character))

-- in any text and encoding, the offset of a position is at most the offset of a later one
abbrev pub OffsetsNeverFall : Type 0
OffsetsNeverFall = (encoding : PositionEncoding) (bs : List ℕ) (p q : Position) → IsAtOrBefore p q → off encoding bs p ≤ off encoding bs q
