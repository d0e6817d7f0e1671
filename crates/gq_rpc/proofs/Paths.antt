-- Paths, part by part.
use Rattle.std.proofs.Common.{◌≡◌, ℕ, ◌+◌, ◌≤◌, List, [], ◌∷◌, ◌++◌, length, take, drop, Bool, true, false, cond, Some, None, refl, ap, sym, ◌∙◌, arith, subst}
use Rattle.std.specs.Prelude.{map, unwrap_or, nat_lt}
use Rattle.std.specs.List.{position, position_or_len, slice_split, join_with_byte, onto_first}
use Rattle.std.proofs.lemmas.List.Sums.{prefix_len-le-length, fails_before_first}
use Rattle.std.proofs.lemmas.List.Splits.{slice_split_none, slice_split_first}
use Rattle.std.proofs.lemmas.List.{take_all}
use Rattle.gq_rpc.specs.Keys.{is_slash, part_key, path_key}

or_len : (n len : ℕ) (b : Bool) → nat_lt n len ≡ b → n ≤ len → unwrap_or (cond b (Some n) None) len ≡ n
or_len n len true e h = refl
or_len n len false e h = grind arith

pub unwrap_or_position : (p : ℕ → Bool) (xs : List ℕ) → unwrap_or (position p xs) (length xs) ≡ position_or_len p xs
unwrap_or_position p xs = or_len (position_or_len p xs) (length xs) (nat_lt (position_or_len p xs) (length xs)) refl (prefix_len-le-length _ xs)

-- without a slash the path is one part
pub path_key-last : (path : List ℕ) (len : ℕ) → len ≡ position_or_len is_slash path → len ≡ length path → path_key path ≡ part_key (take len path)
path_key-last path len e h =
    let all = slice_split_none is_slash path (λ k d w. fails_before_first is_slash path k d (omega arith)) in
    ap (λ parts. join_with_byte 47 (map part_key parts)) all ∙ ap part_key (sym (take_all len path (omega arith)))

-- some part always stands there
pub record Front (parts : List (List ℕ)) : Type 0 where
  pub first : List ℕ
  pub others : List (List ℕ)
  pub is : parts ≡ first ∷ others

front_step : (t : Bool) (x : ℕ) (parts : List (List ℕ)) → Front parts → Front (cond t ([] ∷ parts) (onto_first x parts))
front_step true x parts f = record { first = []; others = parts; is = refl }
front_step false x parts f = record { first = x ∷ f.first; others = f.others; is = ap (onto_first x) f.is }

front_of : (xs : List ℕ) → Front (slice_split is_slash xs)
front_of [] = record { first = []; others = []; is = refl }
front_of (x ∷ xs) = front_step (is_slash x) x (slice_split is_slash xs) (front_of xs)

joined : (first : List ℕ) (parts : List (List ℕ)) → Front parts → join_with_byte 47 (map part_key (first ∷ parts)) ≡ part_key first ++ 47 ∷ join_with_byte 47 (map part_key parts)
joined first parts f = subst (λ p. join_with_byte 47 (map part_key (first ∷ p)) ≡ part_key first ++ 47 ∷ join_with_byte 47 (map part_key p)) (sym f.is) refl

-- the part before the first slash, and the rest behind it
pub path_key-first : (path : List ℕ) (len : ℕ) → len ≡ position_or_len is_slash path → len ≤ length path → ¬ (len ≡ length path)
    → path_key path ≡ part_key (take len path) ++ 47 ∷ path_key (drop (len + 1) path)
path_key-first path len e h k =
    let split = slice_split_first is_slash path 0 (omega arith) in
    ap (λ parts. join_with_byte 47 (map part_key parts)) split
    ∙ joined _ _ (front_of (drop (position_or_len is_slash path + 1) path))
    ∙ ap (λ n. part_key (take n path) ++ 47 ∷ path_key (drop (n + 1) path)) (sym e)
