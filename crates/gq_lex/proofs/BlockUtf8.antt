-- The value of a block string of a text is text.
use Rattle.std.proofs.Common.{◌≡◌, ℕ, zero, suc, ◌+◌, ◌<◌, ◌≤◌, List, [], ◌∷◌, ◌++◌, length, drop, map, Bool, true, false, cond, eqb, Option, Some, None, refl, sym, subst, arith, append_assoc}
use Rattle.std.specs.Prelude.{◌&&◌, IsUtf8, IfSome, unwrap_or, reverse}
use Rattle.std.specs.List.{prefix_len, onto_first, join_with_byte, AllByRecursion}
use Rattle.std.proofs.lemmas.Bool.Decides.{nat_tests}
use Rattle.std.proofs.lemmas.List.{append-nil, reverse-append}
use Rattle.std.proofs.lemmas.Str.{IsUtf8-nil, IsUtf8-append}
use Rattle.gq_lex.specs.Bytes.{is_white_space, is_line_terminator}
use Rattle.gq_lex.specs.Values.{lines, begins_line_feed, indent, is_blank_line, least, common_indent, dedented, from_filled, trimmed, block_value}
use Rattle.gq_lex.proofs.Cutting.{lines_first}
use Rattle.gq_lex.proofs.Utf8.{cut_at_ascii, one_ascii}
use Rattle.gq_lex.proofs.Runs.{is_number}

abbrev AreTexts : List (List ℕ) → Type 0
AreTexts ls = AllByRecursion IsUtf8 ls

-- bytes put before the first line
abbrev fronted : List ℕ → List (List ℕ) → List (List ℕ)
fronted front [] = []
fronted front (l ∷ ls) = (front ++ l) ∷ ls

no_front : (ls : List (List ℕ)) → AreTexts (fronted [] ls) → AreTexts ls
no_front [] h = tt
no_front (l ∷ ls) h = h

one_front : (front : List ℕ) (b : ℕ) (ls : List (List ℕ)) (x : List ℕ) (xs : List (List ℕ)) → ls ≡ x ∷ xs → AreTexts (fronted (front ++ b ∷ []) ls) → AreTexts (fronted front (onto_first b ls))
one_front front b [] x xs is h = absurd (cc)
one_front front b (l ∷ ls) x xs is h = (subst IsUtf8 (append_assoc front (b ∷ []) l) h.0, h.1)

first_holds : (s t : Bool) → s && t ≡ true → s ≡ true
first_holds true t h = refl
first_holds false t h = h

return_ascii : (b : ℕ) → eqb b 13 ≡ true → b < 128
return_ascii b h = grind (arith, nat_tests)

terminator_ascii : (b : ℕ) → is_line_terminator b ≡ true → b < 128
terminator_ascii b h = grind (arith, nat_tests)

lines_by : (front : List ℕ) (b : ℕ) (bs : List ℕ) (t u : Bool) → eqb b 13 && begins_line_feed bs ≡ t → is_line_terminator b ≡ u → IsUtf8 (front ++ b ∷ bs) →
    ((f : List ℕ) → IsUtf8 (f ++ bs) → AreTexts (fronted f (lines bs))) → AreTexts (fronted front (cond t (lines bs) (cond u ([] ∷ lines bs) (onto_first b (lines bs)))))
lines_by front b bs true u e1 e2 utf8 again =
    let cut = cut_at_ascii front b bs (return_ascii b (first_holds (eqb b 13) (begins_line_feed bs) e1)) utf8 in
    again front (IsUtf8-append front bs cut.0 cut.1)
lines_by front b bs false true e1 e2 utf8 again =
    let cut = cut_at_ascii front b bs (terminator_ascii b e2) utf8 in
    (subst IsUtf8 (sym (append-nil front)) cut.0, no_front (lines bs) (again [] cut.1))
lines_by front b bs false false e1 e2 utf8 again =
    one_front front b (lines bs) _ _ (lines_first bs) (again (front ++ b ∷ []) (subst IsUtf8 (sym (append_assoc front (b ∷ []) bs)) utf8))

lines_utf8 : (front bs : List ℕ) → IsUtf8 (front ++ bs) → AreTexts (fronted front (lines bs))
lines_utf8 front [] utf8 = (utf8, tt)
lines_utf8 front (b ∷ bs) utf8 =
    lines_by front b bs (eqb b 13 && begins_line_feed bs) (is_line_terminator b) refl refl utf8 (λ f. lines_utf8 f bs)

-- a line without WhiteSpace at its front
white_ascii : (b : ℕ) → is_white_space b ≡ true → b < 128
white_ascii b h = grind (arith, nat_tests)

drop_white : (n : ℕ) (l : List ℕ) → n ≤ prefix_len is_white_space l → IsUtf8 l → IsUtf8 (drop n l)
drop_white zero l h utf8 = utf8
drop_white (suc n) [] h utf8 = absurd (omega (arith, h))
drop_white (suc n) (b ∷ bs) h utf8 =
    by_test n b bs (is_white_space b) refl h utf8 (drop_white n bs)
  where
    by_test : (n b : ℕ) (bs : List ℕ) (t : Bool) → is_white_space b ≡ t → suc n ≤ cond t (1 + prefix_len is_white_space bs) 0 → IsUtf8 (b ∷ bs) → (n ≤ prefix_len is_white_space bs → IsUtf8 bs → IsUtf8 (drop n bs)) → IsUtf8 (drop n bs)
    by_test n b bs true e h utf8 again = again (omega (arith, h)) (cut_at_ascii [] b bs (white_ascii b e) utf8).1
    by_test n b bs false e h utf8 again = absurd (omega (arith, h))

drop_blank : (n : ℕ) (l : List ℕ) → prefix_len is_white_space l ≡ length l → IsUtf8 l → IsUtf8 (drop n l)
drop_blank zero l h utf8 = utf8
drop_blank (suc n) [] h utf8 = utf8
drop_blank (suc n) (b ∷ bs) h utf8 =
    by_test n b bs (is_white_space b) refl h utf8 (drop_blank n bs)
  where
    by_test : (n b : ℕ) (bs : List ℕ) (t : Bool) → is_white_space b ≡ t → cond t (1 + prefix_len is_white_space bs) 0 ≡ suc (length bs) → IsUtf8 (b ∷ bs) → (prefix_len is_white_space bs ≡ length bs → IsUtf8 bs → IsUtf8 (drop n bs)) → IsUtf8 (drop n bs)
    by_test n b bs true e h utf8 again = again (omega (arith, h)) (cut_at_ascii [] b bs (white_ascii b e) utf8).1
    by_test n b bs false e h utf8 again = absurd (omega (arith, h))

least_tail : (n m : ℕ) (o : Option ℕ) → n ≤ least m o → (n ≤ m) × IfSome o (λ k. n ≤ k)
least_tail n m None h = (h, tt)
least_tail n m (Some k) h = (omega (arith, h), omega (arith, h))

drops_by : (n : ℕ) (l : List ℕ) (ls : List (List ℕ)) (t : Bool) → is_blank_line l ≡ t → IfSome (cond t (common_indent ls) (Some (least (indent l) (common_indent ls)))) (λ k. n ≤ k) → AreTexts (l ∷ ls) →
    (IfSome (common_indent ls) (λ k. n ≤ k) → AreTexts ls → AreTexts (map (drop n) ls)) → AreTexts (map (drop n) (l ∷ ls))
drops_by n l ls true e h texts again = (drop_blank n l (is_number (indent l) (length l) e) texts.0, again h texts.1)
drops_by n l ls false e h texts again =
    let tail = least_tail n (indent l) (common_indent ls) h in
    (drop_white n l tail.0 texts.0, again tail.1 texts.1)

drops_utf8 : (n : ℕ) (ls : List (List ℕ)) → IfSome (common_indent ls) (λ k. n ≤ k) → AreTexts ls → AreTexts (map (drop n) ls)
drops_utf8 n [] h texts = tt
drops_utf8 n (l ∷ ls) h texts = drops_by n l ls (is_blank_line l) refl h texts (drops_utf8 n ls)

at_most_common : (o : Option ℕ) → IfSome o (λ k. unwrap_or o 0 ≤ k)
at_most_common None = tt
at_most_common (Some k) = omega arith

dedented_utf8 : (ls : List (List ℕ)) → AreTexts ls → AreTexts (dedented ls)
dedented_utf8 [] texts = tt
dedented_utf8 (l ∷ ls) texts = (texts.0, drops_utf8 (unwrap_or (common_indent ls) 0) ls (at_most_common (common_indent ls)) texts.1)

-- lines without the blank ones at both ends
from_by : (l : List ℕ) (ls : List (List ℕ)) (t : Bool) → AreTexts (l ∷ ls) → AreTexts (from_filled ls) → AreTexts (cond t (from_filled ls) (l ∷ ls))
from_by l ls true texts again = again
from_by l ls false texts again = texts

from_utf8 : (ls : List (List ℕ)) → AreTexts ls → AreTexts (from_filled ls)
from_utf8 [] texts = tt
from_utf8 (l ∷ ls) texts = from_by l ls (is_blank_line l) texts (from_utf8 ls texts.1)

append_texts : (xs ys : List (List ℕ)) → AreTexts xs → AreTexts ys → AreTexts (xs ++ ys)
append_texts [] ys h k = k
append_texts (x ∷ xs) ys h k = (h.0, append_texts xs ys h.1 k)

reverse_texts : (ls : List (List ℕ)) → AreTexts ls → AreTexts (reverse ls)
reverse_texts [] texts = tt
reverse_texts (l ∷ ls) texts = subst AreTexts (sym (reverse-append (l ∷ []) ls)) (append_texts (reverse ls) (l ∷ []) (reverse_texts ls texts.1) (texts.0, tt))

trimmed_utf8 : (ls : List (List ℕ)) → AreTexts ls → AreTexts (trimmed ls)
trimmed_utf8 ls texts = reverse_texts (from_filled (reverse (from_filled ls))) (from_utf8 (reverse (from_filled ls)) (reverse_texts (from_filled ls) (from_utf8 ls texts)))

joined_utf8 : (ls : List (List ℕ)) → AreTexts ls → IsUtf8 (join_with_byte 10 ls)
joined_utf8 [] texts = IsUtf8-nil
joined_utf8 (l ∷ []) texts = texts.0
joined_utf8 (l ∷ m ∷ ls) texts =
    let later = joined_utf8 (m ∷ ls) texts.1 in
    IsUtf8-append l (10 ∷ join_with_byte 10 (m ∷ ls)) texts.0 (IsUtf8-append (10 ∷ []) (join_with_byte 10 (m ∷ ls)) (one_ascii 10 (omega arith)) later)

pub block_value_utf8 : (raw : List ℕ) → IsUtf8 raw → IsUtf8 (block_value raw)
block_value_utf8 raw utf8 = joined_utf8 (trimmed (dedented (lines raw))) (trimmed_utf8 (dedented (lines raw)) (dedented_utf8 (lines raw) (no_front (lines raw) (lines_utf8 [] raw utf8))))
