-- The text with its replacements made, from the front on.
use Rattle.std.proofs.Common.{◌≡◌, ℕ, ◌+◌, ◌≤◌, ◌^◌, List, [], ◌++◌, length, refl, arith}
use Rattle.std.specs.Str.{IsUtf8, IsCharBoundary}
use Rattle.std.proofs.lemmas.Str.{IsCharBoundary-start}
use Rattle.gq_text.specs.Replaced.{replaced, replaced_from}
use Rattle.gq_text.specs.declared.replacement.Replacement.{Replacement}
use Rattle.gq_edit.specs.Replacements.{AreDisjoint, AreDisjointFrom, FitText}

-- the replacements that are left begin at `at` or later, and fit the text
pub record AreLeft (text : List ℕ) (at : ℕ) (left : List Replacement) : Type 0 where
  pub boundary : IsCharBoundary text at
  pub disjoint : AreDisjointFrom at left
  pub fit : FitText text left

-- what is made, and the replacements that are left from `at` on, give the whole text
pub record Made (text : List ℕ) (rs : List Replacement) (at : ℕ) (left : List Replacement) (made : List ℕ) : Type 0 where
  pub left_fit : AreLeft text at left
  pub whole : made ++ replaced_from at left text ≡ replaced rs text

pub Made_start : (text : List ℕ) (rs : List Replacement) → IsUtf8 text → AreDisjoint rs → FitText text rs → Made text rs 0 rs []
Made_start text rs utf8 disjoint fit = record { left_fit = record { boundary = IsCharBoundary-start text utf8; disjoint = disjoint; fit = fit }; whole = refl }

-- what is made has len bytes, at most 4 MiB
pub record Counted (text : List ℕ) (rs : List Replacement) (at : ℕ) (left : List Replacement) (len : ℕ) : Type 0 where
  pub left_fit : AreLeft text at left
  pub fits : len ≤ 2 ^ 22
  pub whole : len + length (replaced_from at left text) ≡ length (replaced rs text)

pub Counted_start : (text : List ℕ) (rs : List Replacement) → IsUtf8 text → AreDisjoint rs → FitText text rs → Counted text rs 0 rs 0
Counted_start text rs utf8 disjoint fit =
    record { left_fit = record { boundary = IsCharBoundary-start text utf8; disjoint = disjoint; fit = fit }; fits = omega arith; whole = omega arith }
