-- The offset of a position never falls as the position rises.
use Rattle.std.proofs.Common.{◌≡◌, ℕ, zero, suc, ◌-◌, ◌<◌, ◌≤◌, Bool, true, false, cond, nat_le, List, [], ◌∷◌, refl, arith, ◌⊎◌, inl, inr}
use Rattle.std.proofs.lemmas.Bool.Decides.{nat_tests}
use Rattle.std.proofs.lemmas.List.Sums.{take_while-cons, sum_by-cons}
use Rattle.std.specs.Char.{len_utf8}
use Rattle.std.specs.Str.{chars}
use Rattle.gq_text.specs.Order.{OffsetsNeverFall}
use Rattle.gq_text.specs.declared.place.PositionEncoding.{PositionEncoding}
use Rattle.gq_text.specs.Place.{code_units, lines, is_content, content, fitting, byte_count, offset_in}

-- the content of a line is no longer than the line
content_le_by : (b : Bool) (c : ℕ) (l : List ℕ) → byte_count (content l) ≤ byte_count l → byte_count (cond b (c ∷ content l) []) ≤ byte_count (c ∷ l)
content_le_by true c l h = omega (arith, h, sum_by-cons len_utf8 c l, sum_by-cons len_utf8 c (content l))
content_le_by false c l h = omega arith

content_le : (l : List ℕ) → byte_count (content l) ≤ byte_count l
content_le [] = omega arith
content_le (c ∷ l) = rw (take_while-cons is_content c l) (content_le_by (is_content c) c l (content_le l))

module _ (encoding : PositionEncoding) where
  -- a front that fits is no longer than the whole, and where more fits it is no shorter
  fitting_le_by : (b : Bool) (c k : ℕ) (cs : List ℕ) → byte_count (fitting (code_units encoding) (k - code_units encoding c) cs) ≤ byte_count cs
      → byte_count (cond b (c ∷ fitting (code_units encoding) (k - code_units encoding c) cs) []) ≤ byte_count (c ∷ cs)
  fitting_le_by true c k cs h = omega (arith, h, sum_by-cons len_utf8 c cs, sum_by-cons len_utf8 c (fitting (code_units encoding) (k - code_units encoding c) cs))
  fitting_le_by false c k cs h = omega arith

  fitting_le : (k : ℕ) (cs : List ℕ) → byte_count (fitting (code_units encoding) k cs) ≤ byte_count cs
  fitting_le k [] = omega arith
  fitting_le k (c ∷ cs) = fitting_le_by (nat_le (code_units encoding c) k) c k cs (fitting_le (k - code_units encoding c) cs)

  fitting_rises_by : (a b : Bool) (c j k : ℕ) (cs : List ℕ) → nat_le (code_units encoding c) j ≡ a → nat_le (code_units encoding c) k ≡ b → j ≤ k
      → byte_count (fitting (code_units encoding) (j - code_units encoding c) cs) ≤ byte_count (fitting (code_units encoding) (k - code_units encoding c) cs)
      → byte_count (cond a (c ∷ fitting (code_units encoding) (j - code_units encoding c) cs) []) ≤ byte_count (cond b (c ∷ fitting (code_units encoding) (k - code_units encoding c) cs) [])
  fitting_rises_by true true c j k cs e f le h =
      omega (arith, h, sum_by-cons len_utf8 c (fitting (code_units encoding) (j - code_units encoding c) cs), sum_by-cons len_utf8 c (fitting (code_units encoding) (k - code_units encoding c) cs))
  fitting_rises_by true false c j k cs e f le h = absurd (grind (arith, nat_tests))
  fitting_rises_by false b c j k cs e f le h = omega arith

  fitting_rises : (j k : ℕ) (cs : List ℕ) → j ≤ k → byte_count (fitting (code_units encoding) j cs) ≤ byte_count (fitting (code_units encoding) k cs)
  fitting_rises j k [] le = omega arith
  fitting_rises j k (c ∷ cs) le =
      fitting_rises_by (nat_le (code_units encoding c) j) (nat_le (code_units encoding c) k) c j k cs refl refl le (fitting_rises (j - code_units encoding c) (k - code_units encoding c) cs (omega arith))

  -- over the lines
  lines_rise : (ls : List (List ℕ)) (m n j k : ℕ) → (m < n) ⊎ ((m ≡ n) × (j ≤ k)) → offset_in encoding ls m j ≤ offset_in encoding ls n k
  unfolding offset_in
  lines_rise [] m n j k h = omega arith
  lines_rise (l ∷ ls) zero zero j k (inl lt) = absurd (omega arith)
  lines_rise (l ∷ ls) zero zero j k (inr e) = fitting_rises j k (content l) e.1
  lines_rise (l ∷ ls) zero (suc n) j k h = omega (arith, fitting_le j (content l), content_le l)
  lines_rise (l ∷ ls) (suc m) zero j k (inl lt) = absurd (omega arith)
  lines_rise (l ∷ ls) (suc m) zero j k (inr e) = absurd (omega (arith, e.0))
  lines_rise (l ∷ ls) (suc m) (suc n) j k (inl lt) = omega (arith, lines_rise ls m n j k (inl (omega arith)))
  lines_rise (l ∷ ls) (suc m) (suc n) j k (inr e) = omega (arith, lines_rise ls m n j k (inr (omega (arith, e.0), e.1)))

pub offsets_never_fall : OffsetsNeverFall
offsets_never_fall encoding bs p q h = lines_rise encoding (lines (chars bs)) p.line q.line p.character q.character h
