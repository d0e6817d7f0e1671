-- What the places of a block hold once a run of bytes has moved from one end of the gap to the other.
--     cut_apart      a part of what two halves hold
--     put_front, put_back      what stands in front of the gap and behind it, once bytes are put at its start
--     left_front, left_back, right_front, right_back      the same, once the gap has moved
use Rattle.std.specs.Prelude.{◌≡◌, ℕ, ◌+◌, ◌-◌, ◌<◌, ◌≤◌, ◌⊎◌, List, ◌++◌, length, take, drop, slice_range, min, max, get_or}
use Rattle.std.proofs.Common.{refl, sym, ap, ◌∙◌, arith, inl, inr, length-append, length-drop}
use Rattle.std.proofs.Math.Logic.{⊎_elim}
use Rattle.std.proofs.Math.Seq.{take-append_seam, drop-append-add, drop-drop}
use Rattle.std.proofs.Math.ListN.{get_or-append}
use Rattle.std.proofs.lemmas.Bool.{cases_lt}
use Rattle.std.proofs.lemmas.List.{same_lists, get_or-take, get_or-drop, get_or-append_right, length-take-le}

module _ {X : Type 0} where
  -- what is read in front of the gap, and behind it
  before : (xs ys : List X) (s k : ℕ) (d : X) → s ≤ length xs → k < s → get_or (take s xs ++ ys) k d ≡ get_or xs k d
  before xs ys s k d le lt = get_or-append (take s xs) ys d k (omega (arith, length-take-le s xs le)) ∙ get_or-take s xs k d lt

  behind : (xs ys : List X) (s k : ℕ) (d : X) → s ≤ length xs → s ≤ k → get_or (take s xs ++ ys) k d ≡ get_or ys (k - s) d
  behind xs ys s k d le at = get_or-append_right (take s xs) ys s k d (length-take-le s xs le) at

  at_index : (xs : List X) (i j : ℕ) (d : X) → i ≡ j → get_or xs i d ≡ get_or xs j d
  at_index xs i j d e = ap (λ (k : ℕ). get_or xs k d) e

  module _ (xs bs : List X) (s : ℕ) (le : s ≤ length xs) where
    abbrev put : List X
    put = (take s xs ++ bs) ++ drop (s + length bs) xs

    pub put_front : take (s + length bs) put ≡ take s xs ++ bs
    put_front =
        let front = take s xs in let rest = drop (s + length bs) xs in let long : length (front ++ bs) ≡ s + length bs = omega (arith, length-append front bs, length-take-le s xs le) in
        ap (λ (k : ℕ). take k ((front ++ bs) ++ rest)) (sym long) ∙ take-append_seam (front ++ bs) rest

    pub put_back : (e : ℕ) → s + length bs ≤ e → e ≤ length xs → drop e put ≡ drop e xs
    put_back e at in' =
        let front = take s xs in let rest = drop (s + length bs) xs in let m = e - (s + length bs) in
        let long : length (front ++ bs) + m ≡ e = omega (arith, length-append front bs, length-take-le s xs le) in
        ap (λ (k : ℕ). drop k ((front ++ bs) ++ rest)) (sym long) ∙ drop-append-add (front ++ bs) rest m
        ∙ drop-drop m (s + length bs) xs ∙ ap (λ (k : ℕ). drop k xs) (omega arith)

  -- `xs` before the move and `ys` after it: n places from `from` on went to those from `to` on, and the other places that are read stayed
  module _ (xs ys : List X) (same : length ys ≡ length xs) (s e : ℕ) (ordered : s ≤ e) (fits : e ≤ length xs) where
    abbrev Moved : ℕ → ℕ → ℕ → Type 0
    Moved from to n = (k : ℕ) (d : X) → k < n → get_or ys (to + k) d ≡ get_or xs (from + k) d

    abbrev Stayed : ℕ → ℕ → Type 0
    Stayed low high = (d : X) (k : ℕ) → (k < low) ⊎ (high ≤ k) → get_or ys k d ≡ get_or xs k d

    abbrev all : List X
    all = take s xs ++ drop e xs

    all_long : length all ≡ s + (length xs - e)
    all_long = omega (arith, length-append (take s xs) (drop e xs), length-take-le s xs (omega arith), length-drop e xs)

    module _ (at n : ℕ) (left : at + n ≡ s) (moved : Moved at (e - n) n) (stayed : Stayed (e - n) (e - n + n)) where
      pub left_front : take at ys ≡ take at all
      left_front = same_lists _ _ (length-take-le at ys (omega arith) ∙ sym (length-take-le at all (omega (arith, all_long))))
          (λ k d lt. let in' : k < at = omega (arith, length-take-le at ys (omega arith)) in
          get_or-take at ys k d in' ∙ stayed d k (inl (omega arith)) ∙ sym (before xs (drop e xs) s k d (omega arith) (omega arith)) ∙ sym (get_or-take at all k d in'))

      pub left_back : drop (e - n) ys ≡ drop at all
      left_back = same_lists _ _ (omega (arith, length-drop (e - n) ys, length-drop at all, all_long))
          (λ k d lt. get_or-drop (e - n) ys k d ∙ ⊎_elim
          (λ (near : k < n). moved k d near ∙ sym (before xs (drop e xs) s (at + k) d (omega arith) (omega arith)))
          (λ (far : n ≤ k). stayed d (e - n + k) (inr (omega arith)) ∙ at_index xs (e - n + k) (e + (at + k - s)) d (omega arith) ∙ sym (get_or-drop e xs (at + k - s) d) ∙ sym (behind xs (drop e xs) s (at + k) d (omega arith) (omega arith)))
          (cases_lt k n) ∙ sym (get_or-drop at all k d))

    module _ (at n : ℕ) (right : s + n ≡ at) (in' : e + n ≤ length xs) (moved : Moved e s n) (stayed : Stayed s (s + n)) where
      pub right_front : take at ys ≡ take at all
      right_front = same_lists _ _ (length-take-le at ys (omega arith) ∙ sym (length-take-le at all (omega (arith, all_long))))
          (λ k d lt. let near : k < at = omega (arith, length-take-le at ys (omega arith)) in
          get_or-take at ys k d near ∙ ⊎_elim
          (λ (low : k < s). stayed d k (inl low) ∙ sym (before xs (drop e xs) s k d (omega arith) low))
          (λ (high : s ≤ k). at_index ys k (s + (k - s)) d (omega arith) ∙ moved (k - s) d (omega arith) ∙ sym (get_or-drop e xs (k - s) d) ∙ sym (behind xs (drop e xs) s k d (omega arith) high))
          (cases_lt k s) ∙ sym (get_or-take at all k d near))

      pub right_back : drop (e + n) ys ≡ drop at all
      right_back = same_lists _ _ (omega (arith, length-drop (e + n) ys, length-drop at all, all_long))
          (λ k d lt. get_or-drop (e + n) ys k d ∙ stayed d (e + n + k) (inr (omega arith)) ∙ at_index xs (e + n + k) (e + (at + k - s)) d (omega arith)
          ∙ sym (get_or-drop e xs (at + k - s) d) ∙ sym (behind xs (drop e xs) s (at + k) d (omega arith) (omega arith)) ∙ sym (get_or-drop at all k d))

-- a part of two lists joined is a part of the first, and then one of the second
pub cut_apart : {X : Type 0} (xs ys : List X) (from to : ℕ) → from ≤ to → to ≤ length (xs ++ ys)
    → take (min to (length xs) - min from (length xs)) (drop (min from (length xs)) xs) ++ take (max to (length xs) - length xs - (max from (length xs) - length xs)) (drop (max from (length xs) - length xs) ys)
    ≡ slice_range (xs ++ ys) from to
cut_apart {X} xs ys from to ordered in' =
    let n = length xs in let a = min from n in let b = min to n in let p = max from n - n in let q = max to n - n in
    let one : List X = take (b - a) (drop a xs) in let two : List X = take (q - p) (drop p ys) in
    let long = length-append xs ys in
    let l1 : length one ≡ b - a = length-take-le (b - a) (drop a xs) (omega (arith, length-drop a xs)) in
    let l2 : length two ≡ q - p = length-take-le (q - p) (drop p ys) (omega (arith, length-drop p ys)) in
    let l3 : length (slice_range (xs ++ ys) from to) ≡ to - from = length-take-le (to - from) (drop from (xs ++ ys)) (omega (arith, length-drop from (xs ++ ys))) in
    let l4 = length-append one two in
    same_lists _ _ (omega arith)
    (λ k d lt. ⊎_elim
    (λ (near : k < b - a). get_or-append one two d k (omega arith) ∙ get_or-take (b - a) (drop a xs) k d near ∙ get_or-drop a xs k d ∙ at_index xs (a + k) (from + k) d (omega arith) ∙ sym (get_or-append xs ys d (from + k) (omega arith)))
    (λ (far : b - a ≤ k). get_or-append_right one two (b - a) k d l1 far ∙ get_or-take (q - p) (drop p ys) (k - (b - a)) d (omega arith) ∙ get_or-drop p ys (k - (b - a)) d
    ∙ at_index ys (p + (k - (b - a))) (from + k - n) d (omega arith) ∙ sym (get_or-append_right xs ys n (from + k) d refl (omega arith)))
    (cases_lt k (b - a)) ∙ sym (get_or-drop from (xs ++ ys) k d) ∙ sym (get_or-take (to - from) (drop from (xs ++ ys)) k d (omega arith)))
