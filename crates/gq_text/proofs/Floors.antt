-- A place inside a character has the position of the character's start.
use Rattle.std.proofs.Common.{◌≡◌, ℕ, ◌+◌, ◌-◌, ◌<◌, ◌≤◌, Bool, true, false, cond, ◌&&◌, List, [], ◌∷◌, drop, refl, sym, ap, subst, ◌∙◌, arith, nat_lt, nat_le, ⊎_elim}
use Rattle.std.proofs.Math.Utf8.{encode, encodes, scalar, scalars}
use Rattle.std.proofs.lemmas.Bool.{cases_lt}
use Rattle.std.proofs.lemmas.Bool.Decides.{nat_tests}
use Rattle.std.proofs.lemmas.List.{drop_at, length-append}
use Rattle.std.proofs.lemmas.List.Sums.{sum_by-cons, take_while-cons}
use Rattle.std.proofs.lemmas.Str.{IsCharBoundary-from_rest, IsCharBoundary-past_char, chars-encodes, length-encode}
use Rattle.std.specs.Char.{len_utf8}
use Rattle.std.specs.Str.{IsUtf8, IsCharBoundary}
use Rattle.gq_text.specs.declared.place.Position.{Position}
use Rattle.gq_text.specs.declared.place.PositionEncoding.{PositionEncoding}
use Rattle.gq_text.specs.Place.{pos, lines, position_in, on_first, next_line, content, fitting, is_content, ends_line, unit_count, byte_count, code_units}
use Rattle.gq_text.proofs.Steps.{first_line, lines_end, lines_go_on, pushed, position_step}

second : (a b : Bool) → (a && b) ≡ true → b ≡ true
second true b e = e
second false b e = absurd (cc)

-- the start of a text
abbrev pub origin : Position
origin = record { line = 0; character = 0 }

-- inside the first character nothing fits
fits_none : (b : Bool) (c i : ℕ) (xs : List ℕ) → i < len_utf8 c → fitting len_utf8 i (cond b (c ∷ xs) []) ≡ []
fits_none false c i xs h = refl
fits_none true c i xs h = let long : nat_le (len_utf8 c) i ≡ false = grind (arith, nat_tests) in rw long refl

within : (i n : ℕ) (p q : Position) → i < n → cond (nat_lt i n) p q ≡ p
within i n p q h = grind (arith, nat_tests)

-- no character starts behind j and up to i
abbrev pub NoneBetween : List ℕ → ℕ → ℕ → Type 0
NoneBetween bs j i = (k : ℕ) → j < k → k ≤ i → IsCharBoundary bs k → ⊥

-- behind the first character
none_between-rest : (c j i : ℕ) (cs : List ℕ) → len_utf8 c ≤ j → NoneBetween (encodes (c ∷ cs)) j i → NoneBetween (encodes cs) (j - len_utf8 c) (i - len_utf8 c)
none_between-rest c j i cs h near k above below boundary =
    let rest : drop (len_utf8 c) (encodes (c ∷ cs)) ≡ encodes cs = drop_at (encode c) (encodes cs) (len_utf8 c) (length-encode c) in
    near (len_utf8 c + k) (omega arith) (omega arith)
    (IsCharBoundary-from_rest (encodes (c ∷ cs)) (len_utf8 c) k (omega (arith, length-append (encode c) (encodes cs), length-encode c)) (subst (λ (bs : List ℕ). IsCharBoundary bs k) (sym rest) boundary))

module _ (encoding : PositionEncoding) where
  on_first_inside : (c i : ℕ) (l : List ℕ) → i < len_utf8 c → on_first encoding (c ∷ l) i ≡ origin
  on_first_inside c i l h =
      let none : fitting len_utf8 i (content (c ∷ l)) ≡ [] = ap (fitting len_utf8 i) (take_while-cons is_content c l) ∙ fits_none (is_content c) c i (content l) h in
      ap (λ (xs : List ℕ). let p : Position = record { line = 0; character = unit_count encoding xs } in p) none

  inside_in : (c i : ℕ) (l : List ℕ) (ls : List (List ℕ)) → i < len_utf8 c → position_in encoding ((c ∷ l) ∷ ls) i ≡ origin
  unfolding position_in
  inside_in c i l [] h = on_first_inside c i l h
  inside_in c i l (m ∷ ls) h =
      let lt : i < byte_count (c ∷ l) = omega (arith, sum_by-cons len_utf8 c l) in
      within i (byte_count (c ∷ l)) (on_first encoding (c ∷ l) i) (next_line (position_in encoding (m ∷ ls) (i - byte_count (c ∷ l)))) lt ∙ on_first_inside c i l h

  inside_by : (b : Bool) (c i : ℕ) (cs : List ℕ) → i < len_utf8 c → ends_line c cs ≡ b → position_in encoding (lines (c ∷ cs)) i ≡ origin
  inside_by true c i cs h e = rw (lines_end c cs e) (inside_in c i [] (lines cs) h)
  inside_by false c i cs h e = let w = first_line cs in rw (lines_go_on c cs w.first w.others e w.is) (inside_in c i w.first w.others h)

  -- inside the first character
  inside : (c i : ℕ) (cs : List ℕ) → i < len_utf8 c → position_in encoding (lines (c ∷ cs)) i ≡ origin
  inside c i cs h = inside_by (ends_line c cs) c i cs h refl

  -- in an empty text
  nowhere : (i : ℕ) → position_in encoding (lines []) i ≡ origin
  unfolding position_in lines
  nowhere i = refl

  floor_in : (cs : List ℕ) (j i : ℕ) → scalars cs ≡ true → j ≤ i → NoneBetween (encodes cs) j i → position_in encoding (lines cs) j ≡ position_in encoding (lines cs) i
  floor_in [] j i s le near = nowhere j ∙ sym (nowhere i)
  floor_in (c ∷ cs) j i s le near = ⊎_elim
      (λ (lt : i < len_utf8 c). inside c j cs (omega arith) ∙ sym (inside c i cs lt))
      (λ (ge : len_utf8 c ≤ i). ⊎_elim
      (λ (before : j < len_utf8 c). absurd (near (len_utf8 c) before ge (behind_first)))
      (λ (behind : len_utf8 c ≤ j).
      position_step encoding c cs j behind
      ∙ (ap (λ (p : Position). cond (ends_line c cs) (next_line p) (pushed (cond (is_content c) (code_units encoding c) 0) p))
      (floor_in cs (j - len_utf8 c) (i - len_utf8 c) (second (scalar c) (scalars cs) s) (omega arith) (none_between-rest c j i cs behind near))
      ∙ sym (position_step encoding c cs i ge)))
      (cases_lt j (len_utf8 c)))
      (cases_lt i (len_utf8 c))
    where
      behind_first : IsCharBoundary (encodes (c ∷ cs)) (len_utf8 c)
      behind_first =
          let from_start : 0 + len_utf8 c ≡ len_utf8 c = omega arith in
          subst (IsCharBoundary (encodes (c ∷ cs))) from_start (IsCharBoundary-past_char (encodes (c ∷ cs)) (encodes cs) 0 c (omega arith) (c ∷ cs, (s, refl)) refl)

  -- the last start of a character up to a place has the position of that place
  pub pos-floor : (bs : List ℕ) (j i : ℕ) → IsUtf8 bs → j ≤ i → NoneBetween bs j i → pos encoding bs j ≡ pos encoding bs i
  pos-floor bs j i (cs, w) le near =
      subst (λ (ds : List ℕ). NoneBetween ds j i → pos encoding ds j ≡ pos encoding ds i) w.1 (λ n. rw (chars-encodes cs w.0) (floor_in cs j i w.0 le n)) near
