-- Lines of a block string: what each part of the code computes, over lists.
use Rattle.std.proofs.Common.{◌≡◌, ℕ, ◌+◌, ◌<◌, ◌≤◌, List, [], ◌∷◌, ◌++◌, length, take, drop, Bool, true, false, cond, eqb, refl, sym, ap, subst, ◌∙◌, arith, append_assoc, one-add}
use Rattle.std.specs.Prelude.{flat_map, not, ◌&&◌, ◌||◌}
use Rattle.std.specs.List.{prefix_len, onto_first, join_with_byte}
use Rattle.std.proofs.lemmas.List.{append-nil, drop-drop, length-drop}
use Rattle.gq_lex.specs.Decoding.{is_line_byte, terminator_len, later_lines, behind_line_feed}
use Rattle.gq_lex.specs.Scanning.{byte_at}
use Rattle.gq_lex.specs.Values.{lines, begins_line_feed}
use Rattle.gq_lex.proofs.Runs.{is_number}

-- the first line, and those behind its end
abbrev first_and_later : List ℕ → List (List ℕ)
first_and_later bs = take (prefix_len is_line_byte bs) bs ∷ later_lines (drop (prefix_len is_line_byte bs) bs)

feed_is : (bs : List ℕ) → begins_line_feed bs ≡ eqb (byte_at bs 0) 10
feed_is [] = refl
feed_is (b ∷ bs) = refl

abbrev Splits : List ℕ → Type 0
Splits bs = lines bs ≡ first_and_later bs

-- a Carriage Return with a New Line behind it, and another
feed_behind : (bs : List ℕ) → eqb (byte_at bs 0) 10 ≡ true → Splits (13 ∷ bs)
feed_behind [] e = absurd (cc)
feed_behind (n ∷ bs) e = let P : ℕ → Type 0 = λ m. Splits (13 ∷ m ∷ bs) in subst P (sym (is_number n 10 e)) refl

return_alone : (bs : List ℕ) → eqb (byte_at bs 0) 10 ≡ false → Splits (13 ∷ bs)
return_alone bs e =
    ap (λ t. cond t (lines bs) ([] ∷ lines bs)) (feed_is bs ∙ e)
    ∙ sym (ap (λ t. [] ∷ lines (drop (cond t 2 1) (13 ∷ bs))) e)

-- a byte of the first line
line_byte : (b : ℕ) (bs : List ℕ) → eqb b 13 ≡ false → eqb b 10 ≡ false → Splits bs → Splits (b ∷ bs)
line_byte b bs no_return no_feed again =
    ap (λ t. cond (t && begins_line_feed bs) (lines bs) (cond (eqb b 10 || t) ([] ∷ lines bs) (onto_first b (lines bs)))) no_return
    ∙ ap (λ t. cond (t || false) ([] ∷ lines bs) (onto_first b (lines bs))) no_feed
    ∙ ap (onto_first b) again
    ∙ sym (ap (λ k. take k (b ∷ bs) ∷ later_lines (drop k (b ∷ bs)))
    (ap (λ t. cond (not (eqb b 10 || t)) (1 + prefix_len is_line_byte bs) 0) no_return
    ∙ ap (λ t. cond (not (t || false)) (1 + prefix_len is_line_byte bs) 0) no_feed
    ∙ one-add (prefix_len is_line_byte bs)))

-- by the tests of the first byte: a Carriage Return, a New Line behind it, a New Line
lines_by : (b : ℕ) (bs : List ℕ) (t u v : Bool) → eqb b 13 ≡ t → eqb (byte_at bs 0) 10 ≡ u → eqb b 10 ≡ v → Splits bs → Splits (b ∷ bs)
lines_by b bs true true v e1 e2 e3 again = let P : ℕ → Type 0 = λ m. Splits (m ∷ bs) in subst P (sym (is_number b 13 e1)) (feed_behind bs e2)
lines_by b bs true false v e1 e2 e3 again = let P : ℕ → Type 0 = λ m. Splits (m ∷ bs) in subst P (sym (is_number b 13 e1)) (return_alone bs e2)
lines_by b bs false u true e1 e2 e3 again = let P : ℕ → Type 0 = λ m. Splits (m ∷ bs) in subst P (sym (is_number b 10 e3)) refl
lines_by b bs false u false e1 e2 e3 again = line_byte b bs e1 e3 again

pub lines_first : (bs : List ℕ) → lines bs ≡ first_and_later bs
lines_first [] = refl
lines_first (b ∷ bs) = lines_by b bs (eqb b 13) (eqb (byte_at bs 0) 10) (eqb b 10) refl refl refl (lines_first bs)

-- a line terminator, and the line behind it
later_step : (bs : List ℕ) → 0 < length bs → later_lines bs ≡ first_and_later (drop (terminator_len bs) bs)
later_step [] some = absurd (omega (arith, some))
later_step (b ∷ bs) some = lines_first (drop (terminator_len (b ∷ bs)) (b ∷ bs))

later_some : (bs : List ℕ) (at : ℕ) → at < length bs → 0 < length (drop at bs)
later_some bs at h = omega (arith, h, length-drop at bs)

-- the first line, and what is left
pub lines_start : (raw : List ℕ) (before found : List (List ℕ)) (n : ℕ) → before ≡ [] → found ≡ before ++ take n raw ∷ [] → n ≡ prefix_len is_line_byte raw → found ++ later_lines (drop n raw) ≡ lines raw
lines_start raw before found n nothing is len =
    ap (λ l. l ++ later_lines (drop n raw)) (is ∙ ap (λ l. l ++ take n raw ∷ []) nothing)
    ∙ ap (λ k. take k raw ∷ later_lines (drop k raw)) len
    ∙ sym (lines_first raw)

-- one more line
pub lines_onward : (raw : List ℕ) (before found : List (List ℕ)) (at t n : ℕ) → at < length raw → before ++ later_lines (drop at raw) ≡ lines raw → t ≡ terminator_len (drop at raw) → n ≡ prefix_len is_line_byte (drop (at + t) raw) →
    found ≡ before ++ take n (drop (at + t) raw) ∷ [] → found ++ later_lines (drop (at + t + n) raw) ≡ lines raw
lines_onward raw before found at t n some left t_is n_is is =
    let rest : List ℕ = drop (at + t) raw in
    let line : List ℕ = take n rest in
    let next : later_lines (drop at raw) ≡ line ∷ later_lines (drop (at + t + n) raw) =
    later_step (drop at raw) (later_some raw at some)
    ∙ ap (λ k. first_and_later (drop k (drop at raw))) (sym t_is)
    ∙ ap first_and_later (drop-drop t at raw)
    ∙ ap (λ k. take k rest ∷ later_lines (drop k rest)) (sym n_is)
    ∙ ap (λ l. line ∷ later_lines l) (drop-drop n (at + t) raw) in
    ap (λ l. l ++ later_lines (drop (at + t + n) raw)) is
    ∙ append_assoc before (line ∷ []) (later_lines (drop (at + t + n) raw))
    ∙ ap (λ l. before ++ l) (sym next)
    ∙ left

pub within_more : (raw : List ℕ) (at t n : ℕ) → at < length raw → t ≤ length (drop at raw) → n ≤ length (drop (at + t) raw) → at + t + n ≤ length raw
within_more raw at t n some h k = omega (arith, some, h, k, length-drop at raw, length-drop (at + t) raw)

-- a New Line between each two, as one before each but the first
pub joined_first : (x : List ℕ) (xs : List (List ℕ)) → join_with_byte 10 (x ∷ xs) ≡ x ++ flat_map behind_line_feed xs
joined_first x [] = sym (append-nil x)
joined_first x (y ∷ xs) = ap (λ l. x ++ 10 ∷ l) (joined_first y xs)
