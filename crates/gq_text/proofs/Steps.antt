-- How positions and offsets change from one character of a text to the next.
use Rattle.std.proofs.Common.{◌≡◌, ℕ, zero, suc, ◌+◌, ◌-◌, ◌/◌, ◌%◌, ◌<◌, ◌≤◌, ◌==◌, ◌&&◌, ◌||◌, not, Bool, true, false, cond, nat_lt, nat_le, if◌then◌else◌, List, [], ◌∷◌, ◌++◌, length, get_or, drop, sum_by, refl, sym, ap, add-zero, ◌∙◌, arith, ◌⊎◌, inl, inr}
use Rattle.std.proofs.lemmas.Bool.{cases_lt}
use Rattle.std.proofs.lemmas.Bool.Decides.{nat_tests}
use Rattle.std.proofs.lemmas.Str.{IsCharBoundary-from_drop, chars-nil, chars_past_char, drop_past_char, length-encode, len_utf8_bounds}
use Rattle.std.proofs.Math.Utf8.{encode, encodes, scalar, scalars}
use Rattle.std.specs.Char.{len_utf8}
use Rattle.std.specs.Str.{chars, IsUtf8, IsCharBoundary, continuation_len}
use Rattle.std.proofs.lemmas.List.{drop_all, length-drop, length-append, get_or-drop}
use Rattle.std.proofs.lemmas.List.Sums.{take_while-cons, sum_by-cons}
use Rattle.gq_text.specs.declared.place.Position.{Position}
use Rattle.gq_text.specs.declared.place.PositionEncoding.{PositionEncoding}
use Rattle.gq_text.specs.declared.place.PositionEncoding.TheVariants.{Utf8, Utf16}
use Rattle.gq_text.specs.Place.{before_lines, next_line, on_first, off, pos, code_units, ends_line, lines, is_content, content, fitting, byte_count, unit_count, offset_in, position_in}

-- a text that is not empty: its first character, and the rest
pub record FirstChar (s : List ℕ) : Type 0 where
  pub char : ℕ
  pub rest : List ℕ
  pub spelled : s ≡ encode char ++ rest
  pub rest_text : IsUtf8 rest
  pub read : chars s ≡ char ∷ chars rest

second : (a b : Bool) → (a && b) ≡ true → b ≡ true
second true b e = e
second false b e = cc

pub first_char : (s : List ℕ) → IsUtf8 s → 0 < length s → FirstChar s
first_char s ([], w) lt = absurd (let e : length s ≡ 0 = ap length (sym w.1) in omega arith)
first_char s (c ∷ cs, w) lt = record {
  char = c;
  rest = encodes cs;
  spelled = sym w.1;
  rest_text = (cs, (second (scalar c) (scalars cs) w.0, refl));
  read = chars_past_char s (encodes cs) c (c ∷ cs, w) (sym w.1);
}

-- how many code units the character takes that begins with the byte b
abbrev pub units_of_lead : PositionEncoding → ℕ → ℕ
units_of_lead Utf8 b = continuation_len b + 1
units_of_lead Utf16 b = cond (nat_lt b 240) 1 2

-- a character takes a code unit, and no more of them than bytes
pub code_units_bounds : (encoding : PositionEncoding) (c : ℕ) → (1 ≤ code_units encoding c) × (code_units encoding c ≤ len_utf8 c)
code_units_bounds Utf8 c = (omega (arith, len_utf8_bounds c), omega arith)
code_units_bounds Utf16 c = (grind (arith, nat_tests), grind (arith, nat_tests))

-- what the first byte of a character tells of it
pub record Lead (b c : ℕ) : Type 0 where
  pub width : continuation_len b + 1 ≡ len_utf8 c
  pub units : (encoding : PositionEncoding) → units_of_lead encoding b ≡ code_units encoding c
  pub feed : (b == 10) ≡ (c == 10)
  pub return : (b == 13) ≡ (c == 13)

lead_units : (encoding : PositionEncoding) (c : ℕ) (rest : List ℕ) → units_of_lead encoding (get_or (encode c ++ rest) 0 0) ≡ code_units encoding c
unfolding encode
lead_units Utf8 c rest = grind (arith, nat_tests)
lead_units Utf16 c rest = grind (arith, nat_tests)

pub lead : (c : ℕ) (rest : List ℕ) → Lead (get_or (encode c ++ rest) 0 0) c
unfolding encode
lead c rest = record {
  width = grind (arith, nat_tests);
  units = λ encoding. lead_units encoding c rest;
  feed = grind (arith, nat_tests);
  return = grind (arith, nat_tests);
}

-- a text has a first line
pub record FirstLine (cs : List ℕ) : Type 0 where
  pub first : List ℕ
  pub others : List (List ℕ)
  pub is : lines cs ≡ first ∷ others

before_first : (c : ℕ) (ls : List (List ℕ)) → (l : List ℕ) × (ms : List (List ℕ)) × (before_lines c ls ≡ l ∷ ms)
before_first c [] = (c ∷ [], [], refl)
before_first c (l ∷ ls) = (c ∷ l, ls, refl)

choose_line : (b : Bool) (c : ℕ) (ls : List (List ℕ)) → (l : List ℕ) × (ms : List (List ℕ)) × (cond b ((c ∷ []) ∷ ls) (before_lines c ls) ≡ l ∷ ms)
choose_line true c ls = (c ∷ [], ls, refl)
choose_line false c ls = before_first c ls

pub first_line : (cs : List ℕ) → FirstLine cs
unfolding lines
first_line [] = record { first = []; others = []; is = refl }
first_line (c ∷ cs) = let w = choose_line (ends_line c cs) c (lines cs) in record { first = w.0; others = w.1; is = w.2 }

-- the lines of a text by its first character
pub lines_end : (c : ℕ) (cs : List ℕ) → ends_line c cs ≡ true → lines (c ∷ cs) ≡ (c ∷ []) ∷ lines cs
unfolding lines
lines_end c cs e = rw e refl

pub lines_go_on : (c : ℕ) (cs l : List ℕ) (ls : List (List ℕ)) → ends_line c cs ≡ false → lines cs ≡ l ∷ ls → lines (c ∷ cs) ≡ (c ∷ l) ∷ ls
unfolding lines
lines_go_on c cs l ls e f = rw (e, f) refl

-- a character on the line that is looked for
content-cons : (c : ℕ) (l : List ℕ) → content (c ∷ l) ≡ cond (is_content c) (c ∷ content l) []
content-cons c l = take_while-cons is_content c l

ends_is_no_content : (c : ℕ) (cs : List ℕ) → ends_line c cs ≡ true → is_content c ≡ false
ends_is_no_content c cs e = grind (arith, nat_tests)

sum_cond : (b : Bool) (f : ℕ → ℕ) (c : ℕ) (xs : List ℕ) → sum_by f (cond b (c ∷ xs) []) ≡ cond b (f c + sum_by f xs) 0
sum_cond true f c xs = sum_by-cons f c xs
sum_cond false f c xs = refl

-- the place that is looked for is the start of what is left, or lies further on
pub fitting_none : (cs : List ℕ) → fitting len_utf8 0 cs ≡ []
fitting_none [] = refl
fitting_none (c ∷ cs) = grind (arith, nat_tests, len_utf8_bounds c)

within : (i n : ℕ) (p q : Position) → i < n → cond (nat_lt i n) p q ≡ p
within i n p q h = grind (arith, nat_tests)

beyond : (i n : ℕ) (p q : Position) → n ≤ i → cond (nat_lt i n) p q ≡ q
beyond i n p q h = grind (arith, nat_tests)

-- the place, with u code units more in front of it on its line, where that is the first
abbrev pub pushed : ℕ → Position → Position
pushed u p = if p.line == 0 then record { line = 0; character = u + p.character } else p

-- after CR that does not end its line the line has no more content
no_content_after : (c : ℕ) (cs l : List ℕ) (ls : List (List ℕ)) → ends_line c cs ≡ false → is_content c ≡ false → lines cs ≡ l ∷ ls → content l ≡ []
no_content_after c [] l ls e f g = absurd (let no : ends_line c [] ≡ true = grind (arith, nat_tests) in cc)
no_content_after c (d ∷ ds) l ls e f g =
    let feed : d ≡ 10 = grind (arith, nat_tests) in
    let ends : ends_line d ds ≡ true = rw feed refl in
    let first : (d ∷ []) ∷ lines ds ≡ l ∷ ls = sym (lines_end d ds ends) ∙ g in
    let is : l ≡ d ∷ [] = cc in
    rw is (content-cons d [] ∙ rw (ends_is_no_content d ds ends) refl)

pushed_next : (u : ℕ) (p : Position) → pushed u (next_line p) ≡ next_line p
pushed_next u p = grind (arith, nat_tests)

module _ (encoding : PositionEncoding) where
  -- what stands on lines before the one that is looked for
  offset_skip_by : (b : Bool) (c : ℕ) (cs : List ℕ) (n k : ℕ) → ends_line c cs ≡ b → offset_in encoding (lines (c ∷ cs)) (suc n) k ≡ len_utf8 c + offset_in encoding (lines cs) (cond b n (suc n)) k
  unfolding offset_in
  offset_skip_by true c cs n k e = rw (lines_end c cs e) (omega arith)
  offset_skip_by false c cs n k e =
      let w = first_line cs in
      rw (lines_go_on c cs w.first w.others e w.is) (rw w.is (omega (arith, sum_by-cons len_utf8 c w.first)))

  pub offset_skip : (c : ℕ) (cs : List ℕ) (n k : ℕ) → offset_in encoding (lines (c ∷ cs)) (suc n) k ≡ len_utf8 c + offset_in encoding (lines cs) (cond (ends_line c cs) n (suc n)) k
  offset_skip c cs n k = offset_skip_by (ends_line c cs) c cs n k refl

  walk_in : (b : Bool) (c k : ℕ) (l : List ℕ) (ls : List (List ℕ)) → is_content c ≡ b
      → offset_in encoding ((c ∷ l) ∷ ls) 0 k ≡ cond (b && nat_le (code_units encoding c) k) (len_utf8 c + offset_in encoding (l ∷ ls) 0 (k - code_units encoding c)) 0
  unfolding offset_in
  walk_in false c k l ls e = rw (content-cons c l, e) refl
  walk_in true c k l ls e =
      rw (content-cons c l, e) (sum_cond (nat_le (code_units encoding c) k) len_utf8 c (fitting (code_units encoding) (k - code_units encoding c) (content l)))

  offset_walk_by : (b : Bool) (c : ℕ) (cs : List ℕ) (k : ℕ) → ends_line c cs ≡ b
      → offset_in encoding (lines (c ∷ cs)) 0 k ≡ cond (is_content c && nat_le (code_units encoding c) k) (len_utf8 c + offset_in encoding (lines cs) 0 (k - code_units encoding c)) 0
  offset_walk_by true c cs k e =
      rw (lines_end c cs e) (walk_in (is_content c) c k [] (lines cs) refl ∙ rw (ends_is_no_content c cs e) refl)
  offset_walk_by false c cs k e =
      let w = first_line cs in
      rw (lines_go_on c cs w.first w.others e w.is) (rw w.is (walk_in (is_content c) c k w.first w.others refl))

  pub offset_walk : (c : ℕ) (cs : List ℕ) (k : ℕ)
      → offset_in encoding (lines (c ∷ cs)) 0 k ≡ cond (is_content c && nat_le (code_units encoding c) k) (len_utf8 c + offset_in encoding (lines cs) 0 (k - code_units encoding c)) 0
  offset_walk c cs k = offset_walk_by (ends_line c cs) c cs k refl

  on_first_start : (l : List ℕ) → on_first encoding l 0 ≡ record { line = 0; character = 0 }
  on_first_start l = ap (λ (x : List ℕ). let p : Position = record { line = 0; character = unit_count encoding x } in p) (fitting_none (content l))

  start_in : (c : ℕ) (l : List ℕ) (ls : List (List ℕ)) → position_in encoding ((c ∷ l) ∷ ls) 0 ≡ record { line = 0; character = 0 }
  unfolding position_in
  start_in c l [] = on_first_start (c ∷ l)
  start_in c l (m ∷ ls) =
      let lt : 0 < byte_count (c ∷ l) = omega (arith, sum_by-cons len_utf8 c l, len_utf8_bounds c) in
      within 0 (byte_count (c ∷ l)) (on_first encoding (c ∷ l) 0) (next_line (position_in encoding (m ∷ ls) (0 - byte_count (c ∷ l)))) lt ∙ on_first_start (c ∷ l)

  start_by : (b : Bool) (c : ℕ) (cs : List ℕ) → ends_line c cs ≡ b → position_in encoding (lines (c ∷ cs)) 0 ≡ record { line = 0; character = 0 }
  start_by true c cs e = rw (lines_end c cs e) (start_in c [] (lines cs))
  start_by false c cs e = let w = first_line cs in rw (lines_go_on c cs w.first w.others e w.is) (start_in c w.first w.others)

  pub position_start : (cs : List ℕ) → position_in encoding (lines cs) 0 ≡ record { line = 0; character = 0 }
  unfolding position_in lines
  position_start [] = refl
  position_start (c ∷ cs) = start_by (ends_line c cs) c cs refl

  units_on : (b : Bool) (c i : ℕ) (l : List ℕ) → is_content c ≡ b → len_utf8 c ≤ i → (b ≡ false → content l ≡ [])
      → unit_count encoding (fitting len_utf8 i (content (c ∷ l))) ≡ cond b (code_units encoding c) 0 + unit_count encoding (fitting len_utf8 (i - len_utf8 c) (content l))
  units_on false c i l e h k = rw (content-cons c l, e, k refl) refl
  units_on true c i l e h k =
      let fits : nat_le (len_utf8 c) i ≡ true = grind (arith, nat_tests) in
      let shape : content (c ∷ l) ≡ c ∷ content l = content-cons c l ∙ rw e refl in
      ap (λ (xs : List ℕ). unit_count encoding (fitting len_utf8 i xs)) shape
      ∙ (ap (λ (b : Bool). unit_count encoding (cond b (c ∷ fitting len_utf8 (i - len_utf8 c) (content l)) [])) fits
      ∙ sum_by-cons (code_units encoding) c (fitting len_utf8 (i - len_utf8 c) (content l)))

  on_first_go_on : (c i : ℕ) (l : List ℕ) → len_utf8 c ≤ i → (is_content c ≡ false → content l ≡ [])
      → on_first encoding (c ∷ l) i ≡ pushed (cond (is_content c) (code_units encoding c) 0) (on_first encoding l (i - len_utf8 c))
  on_first_go_on c i l h k = ap (λ (u : ℕ). let p : Position = record { line = 0; character = u } in p) (units_on (is_content c) c i l refl h k)

  go_on_more : (c i : ℕ) (l m : List ℕ) (ls : List (List ℕ)) → len_utf8 c ≤ i → (is_content c ≡ false → content l ≡ [])
      → (i < byte_count (c ∷ l)) ⊎ (byte_count (c ∷ l) ≤ i)
      → position_in encoding ((c ∷ l) ∷ m ∷ ls) i ≡ pushed (cond (is_content c) (code_units encoding c) 0) (position_in encoding (l ∷ m ∷ ls) (i - len_utf8 c))
  unfolding position_in
  go_on_more c i l m ls h k (inl lt) =
      let u = cond (is_content c) (code_units encoding c) 0 in
      let more : i - len_utf8 c < byte_count l = omega (arith, sum_by-cons len_utf8 c l) in
      within i (byte_count (c ∷ l)) (on_first encoding (c ∷ l) i) (next_line (position_in encoding (m ∷ ls) (i - byte_count (c ∷ l)))) lt
      ∙ (on_first_go_on c i l h k
      ∙ sym (ap (pushed u) (within (i - len_utf8 c) (byte_count l) (on_first encoding l (i - len_utf8 c)) (next_line (position_in encoding (m ∷ ls) (i - len_utf8 c - byte_count l))) more)))
  go_on_more c i l m ls h k (inr le) =
      let u = cond (is_content c) (code_units encoding c) 0 in
      let more : byte_count l ≤ i - len_utf8 c = omega (arith, sum_by-cons len_utf8 c l) in
      let same : i - byte_count (c ∷ l) ≡ i - len_utf8 c - byte_count l = omega (arith, sum_by-cons len_utf8 c l) in
      beyond i (byte_count (c ∷ l)) (on_first encoding (c ∷ l) i) (next_line (position_in encoding (m ∷ ls) (i - byte_count (c ∷ l)))) le
      ∙ (ap (λ (j : ℕ). next_line (position_in encoding (m ∷ ls) j)) same
      ∙ (sym (pushed_next u (position_in encoding (m ∷ ls) (i - len_utf8 c - byte_count l)))
      ∙ sym (ap (pushed u) (beyond (i - len_utf8 c) (byte_count l) (on_first encoding l (i - len_utf8 c)) (next_line (position_in encoding (m ∷ ls) (i - len_utf8 c - byte_count l))) more))))

  ended : (c i : ℕ) (l : List ℕ) (ls : List (List ℕ)) → len_utf8 c ≤ i → position_in encoding ((c ∷ []) ∷ l ∷ ls) i ≡ next_line (position_in encoding (l ∷ ls) (i - len_utf8 c))
  unfolding position_in
  ended c i l ls h =
      let is : byte_count (c ∷ []) ≡ len_utf8 c = omega (arith, sum_by-cons len_utf8 c []) in
      let le : byte_count (c ∷ []) ≤ i = omega arith in
      beyond i (byte_count (c ∷ [])) (on_first encoding (c ∷ []) i) (next_line (position_in encoding (l ∷ ls) (i - byte_count (c ∷ [])))) le
      ∙ ap (λ (n : ℕ). next_line (position_in encoding (l ∷ ls) (i - n))) is

  go_on : (c i : ℕ) (l : List ℕ) (ls : List (List ℕ)) → len_utf8 c ≤ i → (is_content c ≡ false → content l ≡ [])
      → position_in encoding ((c ∷ l) ∷ ls) i ≡ pushed (cond (is_content c) (code_units encoding c) 0) (position_in encoding (l ∷ ls) (i - len_utf8 c))
  unfolding position_in
  go_on c i l [] h k = on_first_go_on c i l h k
  go_on c i l (m ∷ ls) h k = go_on_more c i l m ls h k (cases_lt i (byte_count (c ∷ l)))

  position_by : (b : Bool) (c : ℕ) (cs : List ℕ) (i : ℕ) → len_utf8 c ≤ i → ends_line c cs ≡ b
      → position_in encoding (lines (c ∷ cs)) i ≡ cond b (next_line (position_in encoding (lines cs) (i - len_utf8 c))) (pushed (cond (is_content c) (code_units encoding c) 0) (position_in encoding (lines cs) (i - len_utf8 c)))
  position_by true c cs i h e =
      let w = first_line cs in
      rw (lines_end c cs e) (rw w.is (ended c i w.first w.others h))
  position_by false c cs i h e =
      let w = first_line cs in
      rw (lines_go_on c cs w.first w.others e w.is) (rw w.is (go_on c i w.first w.others h (λ f. no_content_after c cs w.first w.others e f w.is)))

  pub position_step : (c : ℕ) (cs : List ℕ) (i : ℕ) → len_utf8 c ≤ i
      → position_in encoding (lines (c ∷ cs)) i ≡ cond (ends_line c cs) (next_line (position_in encoding (lines cs) (i - len_utf8 c))) (pushed (cond (is_content c) (code_units encoding c) 0) (position_in encoding (lines cs) (i - len_utf8 c)))
  position_step c cs i h = position_by (ends_line c cs) c cs i h refl

  -- at the end of the text
  pub offset_end : (n k : ℕ) → offset_in encoding (lines []) n k ≡ 0
  unfolding offset_in lines
  offset_end zero k = refl
  offset_end (suc n) k = refl

-- one character further, of the bytes of a text
abbrev pub last_byte : List ℕ → ℕ → Bool
last_byte t at = get_or t at 0 == 10 || (get_or t at 0 == 13 && not (get_or t (at + 1) 0 == 10))

abbrev pub width_at : List ℕ → ℕ → ℕ
width_at t at = continuation_len (get_or t at 0) + 1

-- whether the byte at `at` belongs to the content of its line
abbrev pub content_byte : List ℕ → ℕ → Bool
content_byte t at = not (get_or t at 0 == 10) && not (get_or t at 0 == 13)

abbrev pub units_at : PositionEncoding → List ℕ → ℕ → ℕ
units_at encoding t at = units_of_lead encoding (get_or t at 0)

units_at-le : (encoding : PositionEncoding) (t : List ℕ) (at : ℕ) → units_at encoding t at ≤ width_at t at
units_at-le Utf8 t at = omega arith
units_at-le Utf16 t at = grind (arith, nat_tests)

-- what was read of a byte, where that is the byte at `at`
pub width_read : (t : List ℕ) (at b n : ℕ) → n ≡ continuation_len b + 1 → b ≡ get_or t at 0 → n ≡ width_at t at
width_read t at b n e f = e ∙ ap (λ (x : ℕ). continuation_len x + 1) f

pub units_read : (encoding : PositionEncoding) (t : List ℕ) (at b n : ℕ) → (encoding ≡ Utf8 → n ≡ continuation_len b + 1) → (encoding ≡ Utf16 → n ≡ cond (nat_lt b 240) 1 2)
    → b ≡ get_or t at 0 → n ≡ units_at encoding t at
units_read Utf8 t at b n e f g = e refl ∙ ap (λ (x : ℕ). continuation_len x + 1) g
units_read Utf16 t at b n e f g = f refl ∙ ap (λ (x : ℕ). cond (nat_lt x 240) 1 2) g

pub last_read : (t : List ℕ) (at : ℕ) (b last : Bool) → b ≡ last_byte t at → b ≡ last → last_byte t at ≡ last
last_read t at b last e f = sym e ∙ f

-- the characters of a text t from the byte `at` on
abbrev pub from_byte : List ℕ → ℕ → List ℕ
from_byte t at = chars (drop at t)

-- one character further in the text t
pub record Step (t : List ℕ) (at : ℕ) : Type 0 where
  pub char : ℕ
  pub read : from_byte t at ≡ char ∷ from_byte t (at + width_at t at)
  pub spelled : drop at t ≡ encode char ++ drop (at + width_at t at) t
  pub text : IsUtf8 (drop (at + width_at t at) t)
  pub width : width_at t at ≡ len_utf8 char
  pub units : (encoding : PositionEncoding) → units_at encoding t at ≡ code_units encoding char
  pub inside : at + width_at t at ≤ length t
  pub ends : last_byte t at ≡ ends_line char (from_byte t (at + width_at t at))
  pub is_content : content_byte t at ≡ is_content char

-- the first character is LF where the first byte is
first_feed_of : (s : List ℕ) → FirstChar s → (get_or s 0 0 == 10) ≡ (get_or (chars s) 0 0 == 10)
first_feed_of s w =
    ap (λ (x : List ℕ). get_or x 0 0 == 10) w.spelled ∙ ((lead w.char w.rest).feed ∙ sym (ap (λ (x : List ℕ). get_or x 0 0 == 10) w.read))

pub first_feed : (s : List ℕ) → IsUtf8 s → (get_or s 0 0 == 10) ≡ (get_or (chars s) 0 0 == 10)
first_feed [] u = rw chars-nil refl
first_feed (b ∷ bs) u = first_feed_of (b ∷ bs) (first_char (b ∷ bs) u (omega arith))

same_end : (b c : ℕ) (x y : Bool) → Lead b c → (b ≡ 13 → x ≡ y) → (b == 10 || (b == 13 && not x)) ≡ (c == 10 || (c == 13 && not y))
same_end b c x y k h = grind (arith, nat_tests, k.feed, k.return)

step_of : (t : List ℕ) (at : ℕ) → at < length t → FirstChar (drop at t) → Step t at
step_of t at lt w =
    let here : get_or (drop at t) 0 0 ≡ get_or t at 0 = get_or-drop at t 0 0 ∙ rw add-zero refl in
    let lead_is : get_or t at 0 ≡ get_or (encode w.char ++ w.rest) 0 0 = sym here ∙ ap (λ (s : List ℕ). get_or s 0 0) w.spelled in
    let facts : Lead (get_or t at 0) w.char = rw lead_is (lead w.char w.rest) in
    let rest_is : drop (at + width_at t at) t ≡ w.rest = ap (λ (n : ℕ). drop (at + n) t) facts.width ∙ drop_past_char t w.rest at w.char w.spelled in
    let rest_text : IsUtf8 (drop (at + width_at t at) t) = rw rest_is w.rest_text in
    record {
      char = w.char;
      read = rw rest_is w.read;
      spelled = rw rest_is w.spelled;
      text = rest_text;
      width = facts.width;
      units = facts.units;
      inside = omega (arith, length-drop at t, ap length w.spelled, length-append (encode w.char) w.rest, length-encode w.char, facts.width);
      ends = same_end (get_or t at 0) w.char (get_or t (at + 1) 0 == 10) (get_or (from_byte t (at + width_at t at)) 0 0 == 10) facts
          (λ e.
          let one : width_at t at ≡ 1 = rw e refl in
          let there : get_or (drop (at + width_at t at) t) 0 0 ≡ get_or t (at + 1) 0 = ap (λ (n : ℕ). get_or (drop (at + n) t) 0 0) one ∙ (get_or-drop (at + 1) t 0 0 ∙ rw add-zero refl) in
          ap (λ (n : ℕ). n == 10) (sym there) ∙ first_feed (drop (at + width_at t at) t) rest_text);
      is_content = rw (facts.feed, facts.return) refl;
    }

pub step : (t : List ℕ) (at : ℕ) → IsUtf8 (drop at t) → at < length t → Step t at
step t at u lt = step_of t at lt (first_char (drop at t) u (omega (arith, length-drop at t)))

-- of the text t, what is looked for lies so many lines and code units after the byte `at`
pub record Ahead (encoding : PositionEncoding) (t : List ℕ) (p : Position) (at line character : ℕ) : Type 0 where
  pub text : IsUtf8 (drop at t)
  pub inside : at ≤ length t
  pub found : off encoding t p ≡ at + offset_in encoding (lines (from_byte t at)) line character

-- no character of a text begins inside another
two_bytes : (a b : ℕ) (rest : List ℕ) (k : ℕ) → 0 < k → k < 2 → 128 ≤ b → b < 192 → (128 ≤ get_or (a ∷ b ∷ rest) k 0) × (get_or (a ∷ b ∷ rest) k 0 < 192)
two_bytes a b rest zero h lt lo hi = absurd (omega arith)
two_bytes a b rest (suc zero) h lt lo hi = (lo, hi)
two_bytes a b rest (suc (suc k)) h lt lo hi = absurd (omega arith)

three_bytes : (a b c : ℕ) (rest : List ℕ) (k : ℕ) → 0 < k → k < 3 → 128 ≤ b → b < 192 → 128 ≤ c → c < 192 → (128 ≤ get_or (a ∷ b ∷ c ∷ rest) k 0) × (get_or (a ∷ b ∷ c ∷ rest) k 0 < 192)
three_bytes a b c rest zero h lt lo hi lo' hi' = absurd (omega arith)
three_bytes a b c rest (suc zero) h lt lo hi lo' hi' = (lo, hi)
three_bytes a b c rest (suc (suc k)) h lt lo hi lo' hi' = two_bytes b c rest (suc k) (omega arith) (omega arith) lo' hi'

four_bytes : (a b c d : ℕ) (rest : List ℕ) (k : ℕ) → 0 < k → k < 4 → 128 ≤ b → b < 192 → 128 ≤ c → c < 192 → 128 ≤ d → d < 192
    → (128 ≤ get_or (a ∷ b ∷ c ∷ d ∷ rest) k 0) × (get_or (a ∷ b ∷ c ∷ d ∷ rest) k 0 < 192)
four_bytes a b c d rest zero h lt lo hi lo' hi' l u = absurd (omega arith)
four_bytes a b c d rest (suc zero) h lt lo hi lo' hi' l u = (lo, hi)
four_bytes a b c d rest (suc (suc k)) h lt lo hi lo' hi' l u = three_bytes b c d rest (suc k) (omega arith) (omega arith) lo' hi' l u

inside_by : (c : ℕ) (rest : List ℕ) (k : ℕ) → 0 < k → k < len_utf8 c → (c < 128) ⊎ (128 ≤ c) → (c < 2048) ⊎ (2048 ≤ c) → (c < 65536) ⊎ (65536 ≤ c)
    → (128 ≤ get_or (encode c ++ rest) k 0) × (get_or (encode c ++ rest) k 0 < 192)
unfolding encode
inside_by c rest k h lt (inl p) q r = let one : len_utf8 c ≡ 1 = grind (arith, nat_tests) in absurd (omega arith)
inside_by c rest k h lt (inr p) (inl q) r =
    let size : len_utf8 c ≡ 2 = grind (arith, nat_tests) in
    let shape : encode c ≡ (192 + c / 64) ∷ (128 + c % 64) ∷ [] = grind (arith, nat_tests) in
    rw shape (two_bytes (192 + c / 64) (128 + c % 64) rest k h (omega arith) (omega arith) (omega arith))
inside_by c rest k h lt (inr p) (inr q) (inl r) =
    let size : len_utf8 c ≡ 3 = grind (arith, nat_tests) in
    let shape : encode c ≡ (224 + c / 4096) ∷ (128 + c / 64 % 64) ∷ (128 + c % 64) ∷ [] = grind (arith, nat_tests) in
    rw shape (three_bytes (224 + c / 4096) (128 + c / 64 % 64) (128 + c % 64) rest k h (omega arith) (omega arith) (omega arith) (omega arith) (omega arith))
inside_by c rest k h lt (inr p) (inr q) (inr r) =
    let size : len_utf8 c ≡ 4 = grind (arith, nat_tests) in
    let shape : encode c ≡ (240 + c / 262144) ∷ (128 + c / 4096 % 64) ∷ (128 + c / 64 % 64) ∷ (128 + c % 64) ∷ [] = grind (arith, nat_tests) in
    rw shape (four_bytes (240 + c / 262144) (128 + c / 4096 % 64) (128 + c / 64 % 64) (128 + c % 64) rest k h (omega arith) (omega arith) (omega arith) (omega arith) (omega arith) (omega arith) (omega arith))

bytes_inside : (c : ℕ) (rest : List ℕ) (k : ℕ) → 0 < k → k < len_utf8 c → (128 ≤ get_or (encode c ++ rest) k 0) × (get_or (encode c ++ rest) k 0 < 192)
bytes_inside c rest k h lt = inside_by c rest k h lt (cases_lt c 128) (cases_lt c 2048) (cases_lt c 65536)

boundary_step_by : (t : List ℕ) (at offset : ℕ) → Step t at → IsCharBoundary t offset → at < offset → (offset < at + width_at t at) ⊎ (at + width_at t at ≤ offset) → at + width_at t at ≤ offset
boundary_step_by t at offset w b h (inr le) = le
boundary_step_by t at offset w b h (inl lt) =
    let k = offset - at in
    let within_char : k < len_utf8 w.char = omega (arith, w.width) in
    let there : at + k ≡ offset = omega arith in
    let byte_is : get_or t offset 0 ≡ get_or (encode w.char ++ drop (at + width_at t at) t) k 0 =
    ap (λ (n : ℕ). get_or t n 0) (sym there) ∙ (sym (get_or-drop at t k 0) ∙ ap (λ (s : List ℕ). get_or s k 0) w.spelled) in
    let bounds = bytes_inside w.char (drop (at + width_at t at) t) k (omega arith) within_char in
    let lead_byte = b.1 (omega (arith, w.inside)) (omega (arith, bounds.0)) in
    absurd (omega (arith, bounds.1, lead_byte))

boundary_step_of : (t : List ℕ) (at offset : ℕ) → Step t at → IsCharBoundary t offset → at < offset → at + width_at t at ≤ offset
boundary_step_of t at offset w b h = boundary_step_by t at offset w b h (cases_lt offset (at + width_at t at))

pub boundary_step : (t : List ℕ) (at offset : ℕ) → IsUtf8 (drop at t) → at < length t → IsCharBoundary t offset → at < offset → at + width_at t at ≤ offset
boundary_step t at offset u lt b h = boundary_step_of t at offset (step t at u lt) b h

-- how the position of what lies ahead becomes the position from the start, where at stands on a line with so many code units before it
abbrev pub moved : ℕ → ℕ → Position → Position
moved line units p = if p.line == 0 then record { line = line; character = units + p.character } else record { line = line + p.line; character = p.character }

moved_next : (n u : ℕ) (p : Position) → moved n u (next_line p) ≡ moved (n + 1) 0 p
moved_next n u p = grind (arith, nat_tests)

moved_pushed : (n u v : ℕ) (p : Position) → moved n u (pushed v p) ≡ moved n (u + v) p
moved_pushed n u v p = grind (arith, nat_tests)

-- of the text t, `at` lies on a line, behind so many code units of it, and not behind offset
pub record Behind (encoding : PositionEncoding) (t : List ℕ) (offset at line units : ℕ) : Type 0 where
  pub text : IsUtf8 (drop at t)
  pub inside : at ≤ offset
  pub line_small : line ≤ at
  pub units_small : units ≤ at
  pub found : pos encoding t offset ≡ moved line units (position_in encoding (lines (from_byte t at)) (offset - at))

line_small_by : (last : Bool) (t : List ℕ) (at line : ℕ) → line ≤ at → cond last (line + 1) line ≤ at + width_at t at
line_small_by true t at line h = omega arith
line_small_by false t at line h = omega arith

moved_step : (last : Bool) (n u v : ℕ) (p : Position) → moved n u (cond last (next_line p) (pushed v p)) ≡ moved (cond last (n + 1) n) (cond last 0 (u + v)) p
moved_step true n u v p = moved_next n u p
moved_step false n u v p = moved_pushed n u v p

module _ (encoding : PositionEncoding) where
  -- the same three steps, by the bytes of a text
  offset_line_of : (t : List ℕ) (at n k : ℕ) → Step t at
      → offset_in encoding (lines (from_byte t at)) (suc n) k ≡ width_at t at + offset_in encoding (lines (from_byte t (at + width_at t at))) (cond (last_byte t at) n (suc n)) k
  offset_line_of t at n k w =
      let next = from_byte t (at + width_at t at) in
      ap (λ (cs : List ℕ). offset_in encoding (lines cs) (suc n) k) w.read
      ∙ (offset_skip encoding w.char next n k
      ∙ rw (w.ends, w.width) refl)

  pub offset_line : (t : List ℕ) (at n k : ℕ) → IsUtf8 (drop at t) → at < length t
      → offset_in encoding (lines (from_byte t at)) (suc n) k ≡ width_at t at + offset_in encoding (lines (from_byte t (at + width_at t at))) (cond (last_byte t at) n (suc n)) k
  offset_line t at n k u lt = offset_line_of t at n k (step t at u lt)

  offset_content_of : (t : List ℕ) (at k : ℕ) → Step t at
      → offset_in encoding (lines (from_byte t at)) 0 k ≡ cond (content_byte t at && nat_le (units_at encoding t at) k) (width_at t at + offset_in encoding (lines (from_byte t (at + width_at t at))) 0 (k - units_at encoding t at)) 0
  offset_content_of t at k w =
      let next = from_byte t (at + width_at t at) in
      ap (λ (cs : List ℕ). offset_in encoding (lines cs) 0 k) w.read
      ∙ (offset_walk encoding w.char next k
      ∙ rw (w.is_content, w.units encoding, w.width) refl)

  pub offset_content : (t : List ℕ) (at k : ℕ) → IsUtf8 (drop at t) → at < length t
      → offset_in encoding (lines (from_byte t at)) 0 k ≡ cond (content_byte t at && nat_le (units_at encoding t at) k) (width_at t at + offset_in encoding (lines (from_byte t (at + width_at t at))) 0 (k - units_at encoding t at)) 0
  offset_content t at k u lt = offset_content_of t at k (step t at u lt)

  -- where a text is at its end, nothing is left to look for
  pub offset_past : (t : List ℕ) (at n k : ℕ) → length t ≤ at → offset_in encoding (lines (from_byte t at)) n k ≡ 0
  offset_past t at n k le = ap (λ (bs : List ℕ). offset_in encoding (lines (chars bs)) n k) (drop_all at t le) ∙ rw chars-nil (offset_end encoding n k)

  ahead_line_of : (t : List ℕ) (p : Position) (at n k : ℕ) (last : Bool) → Step t at → Ahead encoding t p at (suc n) k → last_byte t at ≡ last
      → offset_in encoding (lines (from_byte t at)) (suc n) k ≡ width_at t at + offset_in encoding (lines (from_byte t (at + width_at t at))) (cond (last_byte t at) n (suc n)) k
      → Ahead encoding t p (at + width_at t at) (cond last n (suc n)) k
  ahead_line_of t p at n k last w a e f = record {
    text = w.text;
    inside = w.inside;
    found =
        let g : offset_in encoding (lines (from_byte t (at + width_at t at))) (cond (last_byte t at) n (suc n)) k ≡ offset_in encoding (lines (from_byte t (at + width_at t at))) (cond last n (suc n)) k = rw e refl in
        omega (arith, a.found, f, g);
  }

  pub ahead_line : (t : List ℕ) (p : Position) (at n k : ℕ) (last : Bool) → Ahead encoding t p at n k → 0 < n → at < length t → last_byte t at ≡ last
      → Ahead encoding t p (at + width_at t at) (cond last (n - 1) n) k
  ahead_line t p at zero k last a h lt e = absurd (omega arith)
  ahead_line t p at (suc n) k last a h lt e =
      let less : suc n - 1 ≡ n = omega arith in
      rw less (ahead_line_of t p at n k last (step t at a.text lt) a e (offset_line t at n k a.text lt))

  pub ahead_content : (t : List ℕ) (p : Position) (at k : ℕ) → Ahead encoding t p at 0 k → at < length t → (content_byte t at && nat_le (units_at encoding t at) k) ≡ true
      → Ahead encoding t p (at + width_at t at) 0 (k - units_at encoding t at)
  ahead_content t p at k a lt e =
      let w = step t at a.text lt in
      let f : offset_in encoding (lines (from_byte t at)) 0 k ≡ width_at t at + offset_in encoding (lines (from_byte t (at + width_at t at))) 0 (k - units_at encoding t at) = offset_content t at k a.text lt ∙ rw e refl in
      record {
        text = w.text;
        inside = w.inside;
        found = omega (arith, a.found, f);
      }

  pub ahead_stops : (t : List ℕ) (p : Position) (at k : ℕ) → Ahead encoding t p at 0 k → at < length t → (content_byte t at && nat_le (units_at encoding t at) k) ≡ false
      → at ≡ off encoding t p
  ahead_stops t p at k a lt e =
      let f : offset_in encoding (lines (from_byte t at)) 0 k ≡ 0 = offset_content t at k a.text lt ∙ rw e refl in
      omega (arith, a.found, f)

  pub ahead_ends : (t : List ℕ) (p : Position) (at n k : ℕ) → Ahead encoding t p at n k → length t ≤ at → at ≡ off encoding t p
  ahead_ends t p at n k a le = omega (arith, a.found, offset_past t at n k le)

  position_byte_of : (t : List ℕ) (at i : ℕ) → Step t at → width_at t at ≤ i
      → position_in encoding (lines (from_byte t at)) i
      ≡ cond (last_byte t at) (next_line (position_in encoding (lines (from_byte t (at + width_at t at))) (i - width_at t at)))
      (pushed (cond (content_byte t at) (units_at encoding t at) 0) (position_in encoding (lines (from_byte t (at + width_at t at))) (i - width_at t at)))
  position_byte_of t at i w h =
      let next = from_byte t (at + width_at t at) in
      let fits : len_utf8 w.char ≤ i = rw (← w.width) h in
      ap (λ (cs : List ℕ). position_in encoding (lines cs) i) w.read
      ∙ (position_step encoding w.char next i fits
      ∙ rw (w.ends, w.is_content, w.units encoding, w.width) refl)

  units_small_by : (last inside : Bool) (t : List ℕ) (at units : ℕ) → units ≤ at → cond last 0 (units + cond inside (units_at encoding t at) 0) ≤ at + width_at t at
  units_small_by true inside t at units h = omega arith
  units_small_by false false t at units h = omega arith
  units_small_by false true t at units h = omega (arith, units_at-le encoding t at)

  behind_step_of : (t : List ℕ) (offset at line units : ℕ) (last inside : Bool) → Step t at → Behind encoding t offset at line units → at + width_at t at ≤ offset
      → last_byte t at ≡ last → content_byte t at ≡ inside
      → Behind encoding t offset (at + width_at t at) (cond last (line + 1) line) (cond last 0 (units + cond inside (units_at encoding t at) 0))
  behind_step_of t offset at line units last inside w b h e f = record {
    text = w.text;
    inside = h;
    line_small = line_small_by last t at line b.line_small;
    units_small = units_small_by last inside t at units b.units_small;
    found =
        let p = position_in encoding (lines (from_byte t (at + width_at t at))) (offset - (at + width_at t at)) in
        let same : offset - at - width_at t at ≡ offset - (at + width_at t at) = omega arith in
        let ahead : position_in encoding (lines (from_byte t at)) (offset - at) ≡ cond last (next_line p) (pushed (cond inside (units_at encoding t at) 0) p) =
        position_byte_of t at (offset - at) w (omega arith) ∙ rw (e, f, same) refl in
        b.found ∙ (ap (moved line units) ahead ∙ moved_step last line units (cond inside (units_at encoding t at) 0) p);
  }

  pub behind_step : (t : List ℕ) (offset at line units : ℕ) (last inside : Bool) → Behind encoding t offset at line units → at < length t → IsCharBoundary t offset → at < offset
      → last_byte t at ≡ last → content_byte t at ≡ inside
      → Behind encoding t offset (at + width_at t at) (cond last (line + 1) line) (cond last 0 (units + cond inside (units_at encoding t at) 0))
  behind_step t offset at line units last inside b lt k h e f =
      behind_step_of t offset at line units last inside (step t at b.text lt) b (boundary_step t at offset b.text lt k h) e f

  pub behind_ends : (t : List ℕ) (offset at line units : ℕ) → Behind encoding t offset at line units → offset ≤ at → pos encoding t offset ≡ record { line = line; character = units }
  behind_ends t offset at line units b le =
      let none : offset - at ≡ 0 = omega arith in
      let start : position_in encoding (lines (from_byte t at)) (offset - at) ≡ record { line = 0; character = 0 } = rw none (position_start encoding (from_byte t at)) in
      b.found ∙ (ap (moved line units) start ∙ rw (add-zero units) refl)

  pub ahead_boundary : (t : List ℕ) (p : Position) (at n k : ℕ) → Ahead encoding t p at n k → IsCharBoundary t at
  ahead_boundary t p at n k a = IsCharBoundary-from_drop t at a.inside a.text
