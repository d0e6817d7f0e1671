-- Lines and places of bytes.
use Rattle.std.proofs.Common.{◌≡◌, ℕ, ◌+◌, ◌-◌, ◌*◌, ◌<◌, ◌≤◌, List, [], ◌∷◌, length, take, drop, Bool, true, false, not, cond, Option, Some, None, refl, ap, sym, ◌∙◌, arith, min, add-one, one-add}
use Rattle.std.specs.Prelude.{unwrap_or, option_map, bytes_eq, All, nat_lt}
use Rattle.std.specs.List.{position, position_or_len}
use Rattle.std.specs.Char.{is_ascii_digit, digit_value}
use Rattle.std.proofs.lemmas.List.Sums.{prefix_len-le-length, prefix_len_passes}
use Rattle.std.proofs.lemmas.List.{get_or-take, length-take, length-take-le}
use Rattle.std.proofs.lemmas.Str.{digit_value_digit}
use Rattle.gq_rpc.specs.Lines.{ended_lines, onto, is_line_feed, head_of, field_of, known_after}
use Rattle.gq_rpc.specs.declared.header.Head.{Head}
use Rattle.gq_rpc.specs.declared.header.Head.TheVariants.{Open, Done, Malformed}

or_len : (n len : ℕ) (b : Bool) → nat_lt n len ≡ b → n ≤ len → unwrap_or (cond b (Some n) None) len ≡ n
or_len n len true e h = refl
or_len n len false e h = grind arith

-- the place of the first that passes, or the length
pub unwrap_or_position : (p : ℕ → Bool) (xs : List ℕ) → unwrap_or (position p xs) (length xs) ≡ position_or_len p xs
unwrap_or_position p xs = or_len (position_or_len p xs) (length xs) (nat_lt (position_or_len p xs) (length xs)) refl (prefix_len-le-length _ xs)

first_step : (t : Bool) (b n : ℕ) (bs : List ℕ) → (n < length bs → ended_lines bs ≡ take n bs ∷ ended_lines (drop (n + 1) bs))
    → cond (not t) (1 + n) 0 < length (b ∷ bs)
    → cond t ([] ∷ ended_lines bs) (onto b (ended_lines bs)) ≡ take (cond (not t) (1 + n) 0) (b ∷ bs) ∷ ended_lines (drop (cond (not t) (1 + n) 0 + 1) (b ∷ bs))
first_step true b n bs ih h = refl
first_step false b n bs ih h = let e = ih (omega arith) in rw e (simp (one-add, add-one))

-- the first line ends at the first LF
pub ended_lines-first : (xs : List ℕ) → position_or_len is_line_feed xs < length xs
    → ended_lines xs ≡ take (position_or_len is_line_feed xs) xs ∷ ended_lines (drop (position_or_len is_line_feed xs + 1) xs)
ended_lines-first [] h = absurd (omega arith)
ended_lines-first (b ∷ bs) h = first_step (is_line_feed b) b (position_or_len is_line_feed bs) bs (ended_lines-first bs) h

none_step : (t : Bool) (b n : ℕ) (bs : List ℕ) → (length bs ≤ n → ended_lines bs ≡ []) → length (b ∷ bs) ≤ cond (not t) (1 + n) 0
    → cond t ([] ∷ ended_lines bs) (onto b (ended_lines bs)) ≡ []
none_step true b n bs ih h = absurd (omega arith)
none_step false b n bs ih h = let e = ih (omega arith) in rw e refl

-- without a LF no line is ended
pub ended_lines-none : (xs : List ℕ) → length xs ≤ position_or_len is_line_feed xs → ended_lines xs ≡ []
ended_lines-none [] h = refl
ended_lines-none (b ∷ bs) h = none_step (is_line_feed b) b (position_or_len is_line_feed bs) bs (ended_lines-none bs) h

digit_is : (b : ℕ) → is_ascii_digit b ≡ true → digit_value b + 48 ≡ b
digit_is b h = grind (arith, digit_value_digit b)

-- one more digit, under a cap
pub capped_next : (result value b v more cap : ℕ) → result ≡ min (value * 10 + (b - 48)) cap → value ≡ min v cap → more ≡ v * 10 + digit_value b
    → is_ascii_digit b ≡ true → result ≡ min more cap
capped_next result value b v more cap r e m d = let h = digit_is b d in omega arith

-- what a header part says that goes on after this line
abbrev after : ℕ → Option ℕ → List ℕ → List (List ℕ) → Head
after size found line lines = unwrap_or (option_map (λ known. head_of (size + (length line + 1)) known lines) (known_after (field_of line) found)) Malformed

-- what the lines of a text say, by the first of them
head_of-first : (size : ℕ) (found : Option ℕ) (text : List ℕ) (len : ℕ) → len ≡ position_or_len is_line_feed text → len ≤ length text → ¬ (len ≡ length text)
    → head_of size found (ended_lines text) ≡ head_of size found (take len text ∷ ended_lines (drop (len + 1) text))
head_of-first size found text len e h k =
    let first = ended_lines-first text (omega arith) in
    ap (head_of size found) (first ∙ sym (ap (λ n. take n text ∷ ended_lines (drop (n + 1) text)) e))

pub head_of-none : (size : ℕ) (found : Option ℕ) (text : List ℕ) (len : ℕ) → len ≡ position_or_len is_line_feed text → len ≡ length text
    → head_of size found (ended_lines text) ≡ Open
head_of-none size found text len e h = ap (head_of size found) (ended_lines-none text (omega arith))

-- the front line is the empty one
pub head_of-last : (size : ℕ) (found : Option ℕ) (text : List ℕ) (len : ℕ) → len ≡ position_or_len is_line_feed text → len ≤ length text → ¬ (len ≡ length text)
    → bytes_eq (take len text) (13 ∷ []) ≡ true → head_of size found (ended_lines text) ≡ Done (size + 2) found
head_of-last size found text len e h k t =
    head_of-first size found text len e h k ∙ ap (λ b. cond b (Done (size + 2) found) (after size found (take len text) (ended_lines (drop (len + 1) text)))) t

-- the front line is not the empty one
head_of-on : (size : ℕ) (found : Option ℕ) (text : List ℕ) (len : ℕ) → len ≡ position_or_len is_line_feed text → len ≤ length text → ¬ (len ≡ length text)
    → bytes_eq (take len text) (13 ∷ []) ≡ false → head_of size found (ended_lines text) ≡ after size found (take len text) (ended_lines (drop (len + 1) text))
head_of-on size found text len e h k t =
    head_of-first size found text len e h k ∙ ap (λ b. cond b (Done (size + 2) found) (after size found (take len text) (ended_lines (drop (len + 1) text)))) t

-- the front line is bad
pub head_of-bad : (size : ℕ) (found : Option ℕ) (text : List ℕ) (len : ℕ) → len ≡ position_or_len is_line_feed text → len ≤ length text → ¬ (len ≡ length text)
    → bytes_eq (take len text) (13 ∷ []) ≡ false → known_after (field_of (take len text)) found ≡ None → head_of size found (ended_lines text) ≡ Malformed
head_of-bad size found text len e h k t o =
    head_of-on size found text len e h k t
    ∙ ap (λ k. unwrap_or (option_map (λ known. head_of (size + (length (take len text) + 1)) known (ended_lines (drop (len + 1) text))) k) Malformed) o

-- the front line is a field
pub head_of-next : (size : ℕ) (found known : Option ℕ) (text : List ℕ) (len : ℕ) → len ≡ position_or_len is_line_feed text → len ≤ length text → ¬ (len ≡ length text)
    → bytes_eq (take len text) (13 ∷ []) ≡ false → known_after (field_of (take len text)) found ≡ Some known
    → head_of size found (ended_lines text) ≡ head_of (size + (len + 1)) known (ended_lines (drop (len + 1) text))
head_of-next size found known text len e h k t o =
    head_of-on size found text len e h k t
    ∙ ap (λ k. unwrap_or (option_map (λ known. head_of (size + (length (take len text) + 1)) known (ended_lines (drop (len + 1) text))) k) Malformed) o
    ∙ ap (λ n. head_of (size + (n + 1)) known (ended_lines (drop (len + 1) text))) (length-take-le len text h)

not_not : (b : Bool) → not (not b) ≡ true → b ≡ true
not_not true e = refl
not_not false e = e

-- what stands before the first byte that is no digit is digits
pub digits_pass : (xs : List ℕ) (n : ℕ) → n ≡ position_or_len (λ b. not (is_ascii_digit b)) xs → All (λ b. is_ascii_digit b ≡ true) (take n xs)
digits_pass xs n e k d h =
    let within : k < n = omega (arith, length-take n xs) in
    let passed = prefix_len_passes (λ b. not (not (is_ascii_digit b))) xs k d (rw (← e) within) in
    rw (get_or-take n xs k d within) (not_not _ passed)
