-- The ends of spans in a row ascend on character boundaries, and their positions go back to the spans.
use Rattle.std.proofs.Common.{◌≡◌, ℕ, zero, suc, ◌*◌, ◌≤◌, List, [], ◌∷◌, length, map, All, refl, ◌∙◌, ap, arith}
use Rattle.std.specs.Str.{IsCharBoundary}
use Rattle.std.specs.List.Sorted.{IsNonDecreasing}
use Rattle.std.proofs.lemmas.List.Elements.{All-cons, All-nil, All-weaker}
use Rattle.std.proofs.lemmas.List.{length-map}
use Rattle.gq_text.specs.Place.{pos}
use Rattle.gq_text.specs.declared.place.Position.{Position}
use Rattle.gq_text.specs.declared.place.PositionEncoding.{PositionEncoding}
use Rattle.gq_text.specs.declared.replacement.Replacement.{Replacement}
use Rattle.gq_edit.specs.Replacements.{AreDisjoint, AreDisjointFrom, FitText}
use Rattle.gq_edit.specs.Helping.Ends.{ends_of, placed}
use Rattle.gq_edit.specs.Workspace.{text_edit_of}

pub length-ends_of : (rs : List Replacement) → length (ends_of rs) ≡ 2 * length rs
length-ends_of [] = refl
length-ends_of (r ∷ rs) = omega (arith, length-ends_of rs)

pub ends_of-boundaries : (text : List ℕ) (rs : List Replacement) → FitText text rs → All (IsCharBoundary text) (ends_of rs)
ends_of-boundaries text [] h = All-nil (IsCharBoundary text)
ends_of-boundaries text (r ∷ rs) h =
    All-cons (IsCharBoundary text) r.span.start (r.span.end ∷ ends_of rs) h.0
    (All-cons (IsCharBoundary text) r.span.end (ends_of rs) h.1 (ends_of-boundaries text rs h.2))

-- a number at most all of a list, in front of it
IsNonDecreasing-cons : (x : ℕ) (xs : List ℕ) → All (λ y. x ≤ y) xs → IsNonDecreasing xs → IsNonDecreasing (x ∷ xs)
IsNonDecreasing-cons x xs h g zero zero d le below = omega arith
IsNonDecreasing-cons x xs h g zero (suc j) d le below = h j d (omega arith)
IsNonDecreasing-cons x xs h g (suc i) zero d le below = absurd (omega arith)
IsNonDecreasing-cons x xs h g (suc i) (suc j) d le below = g i j d (omega arith) (omega arith)

ends_of-from : (from : ℕ) (rs : List Replacement) → AreDisjointFrom from rs → All (λ y. from ≤ y) (ends_of rs)
ends_of-from from [] h = All-nil (λ y. from ≤ y)
ends_of-from from (r ∷ rs) h =
    let start : from ≤ r.span.start = h.0 in
    let ordered : r.span.start ≤ r.span.end = h.1 in
    let end : from ≤ r.span.end = omega arith in
    All-cons (λ y. from ≤ y) r.span.start (r.span.end ∷ ends_of rs) start
    (All-cons (λ y. from ≤ y) r.span.end (ends_of rs) end (All-weaker (λ y. r.span.end ≤ y) (λ y. from ≤ y) (λ y le. omega arith) (ends_of rs) (ends_of-from r.span.end rs h.2)))

ends_of-ascend_from : (from : ℕ) (rs : List Replacement) → AreDisjointFrom from rs → IsNonDecreasing (ends_of rs)
ends_of-ascend_from from [] h = λ i j d le below. absurd (omega arith)
ends_of-ascend_from from (r ∷ rs) h =
    let later : All (λ y. r.span.end ≤ y) (ends_of rs) = ends_of-from r.span.end rs h.2 in
    let ordered : r.span.start ≤ r.span.end = h.1 in
    let behind : All (λ y. r.span.start ≤ y) (r.span.end ∷ ends_of rs) =
    All-cons (λ y. r.span.start ≤ y) r.span.end (ends_of rs) ordered (All-weaker (λ y. r.span.end ≤ y) (λ y. r.span.start ≤ y) (λ y le. omega arith) (ends_of rs) later) in
    IsNonDecreasing-cons r.span.start (r.span.end ∷ ends_of rs) behind (IsNonDecreasing-cons r.span.end (ends_of rs) later (ends_of-ascend_from r.span.end rs h.2))

pub ends_of-ascend : (rs : List Replacement) → AreDisjoint rs → IsNonDecreasing (ends_of rs)
ends_of-ascend rs h = ends_of-ascend_from 0 rs h

placed-ends_of : (encoding : PositionEncoding) (text : List ℕ) (rs : List Replacement) → placed rs (map (pos encoding text) (ends_of rs)) ≡ map (text_edit_of encoding text) rs
placed-ends_of encoding text [] = refl
placed-ends_of encoding text (r ∷ rs) = ap (λ es. text_edit_of encoding text r ∷ es) (placed-ends_of encoding text rs)

-- the positions of the ends, two for each replacement, are those of its own span
module _ (encoding : PositionEncoding) (text : List ℕ) (rs : List Replacement) (ends : List ℕ) (positions : List Position) (are_ends : ends ≡ ends_of rs) (are_positions : positions ≡ map (pos encoding text) ends) where
  pub length-positions : length positions ≡ 2 * length rs
  length-positions = rw (are_positions, are_ends) (length-map (ends_of rs) (pos encoding text) ∙ length-ends_of rs)

  pub placed-positions : placed rs positions ≡ map (text_edit_of encoding text) rs
  placed-positions = rw (are_positions, are_ends) (placed-ends_of encoding text rs)
