-- The position of a place, from the position of one before it.
use Rattle.std.proofs.Common.{◌≡◌, ℕ, ◌+◌, ◌-◌, ◌<◌, ◌≤◌, Bool, true, false, cond, List, [], ◌∷◌, ◌++◌, length, get_or, take, drop, map, All, refl, sym, ap, subst, ◌∙◌, zero-add, add-zero, arith}
use Rattle.std.proofs.lemmas.Bool.Decides.{nat_tests}
use Rattle.std.proofs.lemmas.List.{length-append, length-take, map_more, take-append-drop}
use Rattle.std.proofs.lemmas.List.Elements.{All-get_or}
use Rattle.std.proofs.lemmas.List.Sums.{sum_by-cons}
use Rattle.std.proofs.lemmas.Str.{chars-append, encodes-chars, length-encode, len_utf8_bounds, IsCharBoundary-start, IsUtf8-take, IsUtf8-drop}
use Rattle.std.proofs.Math.Utf8.{encode, encodes}
use Rattle.std.specs.Char.{len_utf8}
use Rattle.std.specs.List.Sorted.{IsNonDecreasing}
use Rattle.std.specs.Str.{chars, IsUtf8, IsCharBoundary}
use Rattle.gq_text.specs.declared.place.Position.{Position}
use Rattle.gq_text.specs.declared.place.PositionEncoding.{PositionEncoding}
use Rattle.gq_text.specs.Place.{next_line, code_units, ends_line, lines, is_content, byte_count, position_in, pos}
use Rattle.gq_text.proofs.Steps.{code_units_bounds, position_start, position_step, pushed, moved, Behind}

-- the place q of what follows the place p
abbrev pub after : Position → Position → Position
after p q = moved p.line p.character q

after_start : (q : Position) → moved 0 0 q ≡ q
after_start q = grind (arith, nat_tests)

after_next : (p q : Position) → next_line (after p q) ≡ after (next_line p) q
after_next p q = grind (arith, nat_tests)

after_pushed : (u : ℕ) (p q : Position) → pushed u (after p q) ≡ after (pushed u p) q
after_pushed u p q = grind (arith, nat_tests)

after_by : (b : Bool) (u : ℕ) (p q : Position) → cond b (next_line (after p q)) (pushed u (after p q)) ≡ after (cond b (next_line p) (pushed u p)) q
after_by true u p q = after_next p q
after_by false u p q = after_pushed u p q

-- a position counts no more lines and code units than there are bytes before it
pub record IsSmall (n : ℕ) (p : Position) : Type 0 where
  pub line : p.line ≤ n
  pub character : p.character ≤ n

-- the characters of a text take its bytes
byte_count-encodes : (cs : List ℕ) → byte_count cs ≡ length (encodes cs)
byte_count-encodes [] = refl
byte_count-encodes (c ∷ cs) = omega (arith, sum_by-cons len_utf8 c cs, byte_count-encodes cs, length-append (encode c) (encodes cs), length-encode c)

pub byte_count-chars : (bs : List ℕ) → IsUtf8 bs → byte_count (chars bs) ≡ length bs
byte_count-chars bs u = byte_count-encodes (chars bs) ∙ ap length (encodes-chars bs u)

-- a text t, cut in front of the byte `at`
record CutAt (t : List ℕ) (at : ℕ) : Type 0 where
  pub front : List ℕ
  pub whole : chars t ≡ front ++ chars (drop at t)
  pub size : byte_count front ≡ at
  pub text : IsUtf8 (drop at t)

cut_at : (t : List ℕ) (at : ℕ) → IsUtf8 t → IsCharBoundary t at → CutAt t at
cut_at t at u b =
    let front : IsUtf8 (take at t) = IsUtf8-take t at u b in
    record {
      front = chars (take at t);
      whole = ap chars (sym (take-append-drop at t)) ∙ chars-append (take at t) (drop at t) front;
      size = byte_count-chars (take at t) front ∙ omega (arith, length-take at t, b.0);
      text = IsUtf8-drop t at u b;
    }

-- the positions of the first n offsets are found, and p is the position of the place `at`, which is not behind the next of them
pub record FoundUpTo (encoding : PositionEncoding) (t offsets : List ℕ) (n : ℕ) (found : List Position) (at : ℕ) (p : Position) : Type 0 where
  pub made : found ≡ map (pos encoding t) (take n offsets)
  pub known : p ≡ pos encoding t at
  pub boundary : IsCharBoundary t at
  pub below : n < length offsets → at ≤ get_or offsets n 0

module _ (encoding : PositionEncoding) where
  -- one character more in front
  further_cons : (c : ℕ) (xs ys : List ℕ) (i : ℕ)
      → position_in encoding (lines (c ∷ (xs ++ ys))) (byte_count (c ∷ xs) + i)
      ≡ cond (ends_line c (xs ++ ys)) (next_line (position_in encoding (lines (xs ++ ys)) (byte_count xs + i))) (pushed (cond (is_content c) (code_units encoding c) 0) (position_in encoding (lines (xs ++ ys)) (byte_count xs + i)))
  further_cons c xs ys i =
      let size : byte_count (c ∷ xs) + i ≡ len_utf8 c + (byte_count xs + i) = omega (arith, sum_by-cons len_utf8 c xs) in
      let less : len_utf8 c + (byte_count xs + i) - len_utf8 c ≡ byte_count xs + i = omega arith in
      ap (λ (n : ℕ). position_in encoding (lines (c ∷ (xs ++ ys))) n) size ∙ (position_step encoding c (xs ++ ys) (len_utf8 c + (byte_count xs + i)) (omega arith) ∙ rw less refl)

  -- the position i bytes behind the characters xs
  pub position_further : (xs ys : List ℕ) (i : ℕ)
      → position_in encoding (lines (xs ++ ys)) (byte_count xs + i) ≡ after (position_in encoding (lines (xs ++ ys)) (byte_count xs + 0)) (position_in encoding (lines ys) i)
  position_further [] ys i =
      ap (λ (n : ℕ). position_in encoding (lines ys) n) (zero-add i)
      ∙ (sym (after_start (position_in encoding (lines ys) i))
      ∙ ap (λ (p : Position). after p (position_in encoding (lines ys) i)) (sym (position_start encoding ys)))
  position_further (c ∷ xs) ys i =
      let b = ends_line c (xs ++ ys) in
      let u = cond (is_content c) (code_units encoding c) 0 in
      let p = position_in encoding (lines (xs ++ ys)) (byte_count xs + 0) in
      let q = position_in encoding (lines ys) i in
      further_cons c xs ys i
      ∙ (ap (λ (r : Position). cond b (next_line r) (pushed u r)) (position_further xs ys i)
      ∙ (after_by b u p q
      ∙ ap (λ (r : Position). after r q) (sym (further_cons c xs ys 0))))

  small_by : (b d : Bool) (c n : ℕ) (p : Position) → IsSmall n p → IsSmall (len_utf8 c + n) (cond b (next_line p) (pushed (cond d (code_units encoding c) 0) p))
  small_by b d c n p s = record {
    line = grind (arith, nat_tests, s.line, len_utf8_bounds c);
    character = grind (arith, nat_tests, s.character, code_units_bounds encoding c);
  }

  pub position_small : (xs ys : List ℕ) → IsSmall (byte_count xs) (position_in encoding (lines (xs ++ ys)) (byte_count xs))
  position_small [] ys = rw (position_start encoding ys) (record { line = omega arith; character = omega arith })
  position_small (c ∷ xs) ys =
      let is : position_in encoding (lines (c ∷ (xs ++ ys))) (byte_count (c ∷ xs)) ≡ cond (ends_line c (xs ++ ys)) (next_line (position_in encoding (lines (xs ++ ys)) (byte_count xs))) (pushed (cond (is_content c) (code_units encoding c) 0) (position_in encoding (lines (xs ++ ys)) (byte_count xs))) =
      ap (λ (i : ℕ). position_in encoding (lines (c ∷ (xs ++ ys))) i) (sym (add-zero (byte_count (c ∷ xs))))
      ∙ (further_cons c xs ys 0
      ∙ ap (λ (i : ℕ). cond (ends_line c (xs ++ ys)) (next_line (position_in encoding (lines (xs ++ ys)) i)) (pushed (cond (is_content c) (code_units encoding c) 0) (position_in encoding (lines (xs ++ ys)) i))) (add-zero (byte_count xs))) in
      rw (is, sum_by-cons len_utf8 c xs) (small_by (ends_line c (xs ++ ys)) (is_content c) c (byte_count xs) (position_in encoding (lines (xs ++ ys)) (byte_count xs)) (position_small xs ys))

  pos_of : (t : List ℕ) (at i : ℕ) (w : CutAt t at) → pos encoding t (at + i) ≡ position_in encoding (lines (w.front ++ chars (drop at t))) (byte_count w.front + i)
  pos_of t at i w = rw (w.whole, w.size) refl

  behind_cut : (t : List ℕ) (at offset : ℕ) (p : Position) → CutAt t at → at ≤ offset → p ≡ pos encoding t at → Behind encoding t offset at p.line p.character
  behind_cut t at offset p w le e =
      let ys = chars (drop at t) in
      let here : pos encoding t at ≡ position_in encoding (lines (w.front ++ ys)) (byte_count w.front + 0) = ap (pos encoding t) (sym (add-zero at)) ∙ pos_of t at 0 w in
      let there : pos encoding t offset ≡ position_in encoding (lines (w.front ++ ys)) (byte_count w.front + (offset - at)) =
      ap (pos encoding t) (let s : offset ≡ at + (offset - at) = omega arith in s) ∙ pos_of t at (offset - at) w in
      let small : IsSmall at p =
      rw (e, here) (rw (add-zero (byte_count w.front)) (let P : ℕ → Type 0 = λ n. IsSmall n (position_in encoding (lines (w.front ++ ys)) (byte_count w.front)) in subst P w.size (position_small w.front ys))) in
      record {
        text = w.text;
        inside = le;
        line_small = small.line;
        units_small = small.character;
        found = there ∙ (position_further w.front ys (offset - at) ∙ ap (λ (q : Position). after q (position_in encoding (lines ys) (offset - at))) (sym (e ∙ here)));
      }

  -- p is the position of the place `at`, which lies at or before offset
  pub behind_at : (t : List ℕ) (at offset : ℕ) (p : Position) → IsUtf8 t → IsCharBoundary t at → at ≤ offset → p ≡ pos encoding t at → Behind encoding t offset at p.line p.character
  behind_at t at offset p u b le e = behind_cut t at offset p (cut_at t at u b) le e

  -- the start of a text
  pub pos_start : (t : List ℕ) → record { line = 0; character = 0 } ≡ pos encoding t 0
  pos_start t = sym (position_start encoding (chars t))

  pub found_none : (t offsets : List ℕ) → IsUtf8 t → FoundUpTo encoding t offsets 0 [] 0 (record { line = 0; character = 0 })
  found_none t offsets u = record {
    made = refl;
    known = pos_start t;
    boundary = IsCharBoundary-start t u;
    below = λ h. omega arith;
  }

  pub found_one : (t offsets : List ℕ) (n : ℕ) (found : List Position) (at : ℕ) (p q : Position) → All (IsCharBoundary t) offsets → IsNonDecreasing offsets → n < length offsets
      → FoundUpTo encoding t offsets n found at p → q ≡ pos encoding t (get_or offsets n 0) → FoundUpTo encoding t offsets (n + 1) (found ++ q ∷ []) (get_or offsets n 0) q
  found_one t offsets n found at p q all ascending lt f e = record {
    made = rw (e, f.made) (sym (map_more (pos encoding t) offsets n 0 lt));
    known = e;
    boundary = All-get_or (IsCharBoundary t) offsets n 0 lt all;
    below = λ h. ascending n (n + 1) 0 (omega arith) h;
  }
