-- Numbers that are counted from one on.
use Rattle.std.proofs.Common.{◌≡◌, ℕ, zero, suc, ◌+◌, ◌<◌, List, [], ◌∷◌, ◌++◌, length, get_or, map, flat_map, refl, ap, sym, ◌∙◌, subst, arith, Contains, ◌⊎◌, inl, inr, ⊎_elim, Option, Some, None, append-nil, append_assoc}
use Rattle.std.specs.Prelude.{slice_get}
use Rattle.std.proofs.lemmas.List.{length-append, length-map, map-append}
use Rattle.std.proofs.lemmas.Grind.{flat_map-append}
use Rattle.gq_type_system.specs.Helping.DefaultValuesPlaces.{count_from, number_rows}
use Rattle.gq_types.proofs.Gathered.{nothing_in as in_none, first as in_first, later as in_later, cases_cons as in_cases}

pub count-append : {A : Type 0} (k : ℕ) (xs ys : List A) → count_from k (xs ++ ys) ≡ count_from k xs ++ count_from (k + length xs) ys
count-append k [] ys = ap (λ n. count_from n ys) (omega arith)
count-append k (x ∷ xs) ys = ap (λ ns. k ∷ ns) (count-append (k + 1) xs ys ∙ ap (λ n. count_from (k + 1) xs ++ count_from n ys) (omega arith))

module _ {A : Type 0} where
  -- one more part of a list is numbered
  pub numbers_step : (old new whole : List ℕ) (fields fields' xs rest : List A) → new ≡ old ++ count_from (length fields) xs → fields' ≡ fields ++ xs
      → old ++ count_from (length fields) (xs ++ rest) ≡ whole → new ++ count_from (length fields') rest ≡ whole
  numbers_step old new whole fields fields' xs rest is longer before =
      let long : length fields' ≡ length fields + length xs = ap length longer ∙ length-append fields xs in
      ap (λ ns. ns ++ count_from (length fields') rest) is ∙ append_assoc old (count_from (length fields) xs) (count_from (length fields') rest)
      ∙ ap (λ k. old ++ (count_from (length fields) xs ++ count_from k rest)) long ∙ ap (λ ns. old ++ ns) (sym (count-append (length fields) xs rest)) ∙ before

  -- one more list is numbered
  pub rows_step : (old new whole : List (List ℕ)) (fields fields' xs : List A) (rest : List (List A)) → new ≡ old ++ count_from (length fields) xs ∷ [] → fields' ≡ fields ++ xs
      → old ++ number_rows (length fields) (xs ∷ rest) ≡ whole → new ++ number_rows (length fields') rest ≡ whole
  rows_step old new whole fields fields' xs rest is longer before =
      let long : length fields' ≡ length fields + length xs = ap length longer ∙ length-append fields xs in
      ap (λ ns. ns ++ number_rows (length fields') rest) is ∙ append_assoc old (count_from (length fields) xs ∷ []) (number_rows (length fields') rest)
      ∙ ap (λ k. old ++ (count_from (length fields) xs ∷ number_rows k rest)) long ∙ before

  -- one more part of what was put
  pub fields_step : (old new whole xs rest : List A) → new ≡ old ++ xs → old ++ (xs ++ rest) ≡ whole → new ++ rest ≡ whole
  fields_step old new whole xs rest is before = ap (λ fs. fs ++ rest) is ∙ append_assoc old xs rest ∙ before

pub ruleset counts = (count-append, length-append, length-map, map-append, append-nil, append_assoc, flat_map-append)

-- Items by their numbers.
module _ {A : Type 0} where
  get_left : (xs ys : List A) (j : ℕ) (x : A) → slice_get xs j ≡ Some x → slice_get (xs ++ ys) j ≡ Some x
  get_left [] ys j x is = absurd (cc)
  get_left (w ∷ xs) ys zero x is = is
  get_left (w ∷ xs) ys (suc j) x is = get_left xs ys j x is

  get_right : (xs ys : List A) (j n : ℕ) → n ≡ length xs + j → slice_get (xs ++ ys) n ≡ slice_get ys j
  get_right [] ys j n is = ap (slice_get ys) (omega arith)
  get_right (x ∷ xs) ys j zero is = absurd (omega arith)
  get_right (x ∷ xs) ys j (suc n) is = get_right xs ys j n (omega arith)

  -- a number that was counted, and what it numbers
  from_count : (k : ℕ) (xs : List A) (i : ℕ) → Contains (count_from k xs) i → (j : ℕ) × (x : A) × (i ≡ k + j) × (slice_get xs j ≡ Some x) × Contains xs x
  from_count k [] i found = absurd (in_none i found)
  from_count k (w ∷ xs) i found = ⊎_elim
      (λ is. (0, w, omega arith, refl, in_first w w xs refl))
      (λ there. let rest = from_count (k + 1) xs i there in (suc rest.0, rest.1, omega (arith, rest.2), rest.3, in_later w rest.1 xs rest.4))
      (in_cases k i (count_from (k + 1) xs) found)

  to_count : (k : ℕ) (xs : List A) (x : A) → Contains xs x → (i j : ℕ) × (i ≡ k + j) × (slice_get xs j ≡ Some x) × Contains (count_from k xs) i
  to_count k [] x found = absurd (in_none x found)
  to_count k (w ∷ xs) x found = ⊎_elim
      (λ is. (k, 0, omega arith, ap Some is, in_first k k (count_from (k + 1) xs) refl))
      (λ there. let rest = to_count (k + 1) xs x there in (rest.0, suc rest.1, omega (arith, rest.2), rest.3, in_later k rest.0 (count_from (k + 1) xs) rest.4))
      (in_cases w x xs found)

  from_rows : (k : ℕ) (xss : List (List A)) (m i : ℕ) → Contains (get_or (number_rows k xss) m []) i
      → (j : ℕ) × (x : A) × (i ≡ k + j) × (slice_get (flat_map (λ xs. xs) xss) j ≡ Some x) × Contains (get_or xss m []) x
  from_rows k [] m i found = absurd (in_none i found)
  from_rows k (xs ∷ xss) zero i found =
      let here = from_count k xs i found in (here.0, here.1, here.2, get_left xs (flat_map (λ ys. ys) xss) here.0 here.1 here.3, here.4)
  from_rows k (xs ∷ xss) (suc m) i found =
      let rest = from_rows (k + length xs) xss m i found in
      (length xs + rest.0, rest.1, omega (arith, rest.2), get_right xs (flat_map (λ ys. ys) xss) rest.0 (length xs + rest.0) refl ∙ rest.3, rest.4)

  to_rows : (k : ℕ) (xss : List (List A)) (m : ℕ) (x : A) → Contains (get_or xss m []) x
      → (i j : ℕ) × (i ≡ k + j) × (slice_get (flat_map (λ xs. xs) xss) j ≡ Some x) × Contains (get_or (number_rows k xss) m []) i
  to_rows k [] m x found = absurd (in_none x found)
  to_rows k (xs ∷ xss) zero x found =
      let here = to_count k xs x found in (here.0, here.1, here.2, get_left xs (flat_map (λ ys. ys) xss) here.1 x here.3, here.4)
  to_rows k (xs ∷ xss) (suc m) x found =
      let rest = to_rows (k + length xs) xss m x found in
      (rest.0, length xs + rest.1, omega (arith, rest.2), get_right xs (flat_map (λ ys. ys) xss) rest.1 (length xs + rest.1) refl ∙ rest.3, rest.4)

  -- a number in a row is that of an item of the row
  pub numbered_item : (xss : List (List A)) (m i : ℕ) → Contains (get_or (number_rows 0 xss) m []) i → (x : A) × (slice_get (flat_map (λ xs. xs) xss) i ≡ Some x) × Contains (get_or xss m []) x
  numbered_item xss m i found =
      let at = from_rows 0 xss m i found in (at.1, ap (slice_get (flat_map (λ xs. xs) xss)) (omega (arith, at.2)) ∙ at.3, at.4)

  pub item_numbered : (xss : List (List A)) (m : ℕ) (x : A) → Contains (get_or xss m []) x → (i : ℕ) × (slice_get (flat_map (λ xs. xs) xss) i ≡ Some x) × Contains (get_or (number_rows 0 xss) m []) i
  item_numbered xss m x found =
      let at = to_rows 0 xss m x found in (at.0, ap (slice_get (flat_map (λ xs. xs) xss)) (omega (arith, at.2)) ∙ at.3, at.4)

  pub length_number_rows : (k : ℕ) (xss : List (List A)) → length (number_rows k xss) ≡ length xss
  length_number_rows k [] = refl
  length_number_rows k (xs ∷ xss) = ap suc (length_number_rows (k + length xs) xss)

  -- an item's number, or one behind them
  pub part_cases : (xs : List A) (n : ℕ) → ((x : A) × (slice_get xs n ≡ Some x)) ⊎ ((k : ℕ) × (n ≡ length xs + k))
  part_cases [] n = inr (n, omega arith)
  part_cases (w ∷ xs) zero = inl (w, refl)
  part_cases (w ∷ xs) (suc n) = ⊎_elim (λ a. inl a) (λ b. inr (b.0, omega (arith, b.1))) (part_cases xs n)

  -- a table of the rows of items, and rows behind them
  module _ {Y : Type 0} (g : A → List Y) where
    pub front_row : (xs : List A) (rows : List (List Y)) (n : ℕ) (x : A) → slice_get xs n ≡ Some x → get_or (map g xs ++ rows) n [] ≡ g x
    front_row [] rows n x is = absurd (cc)
    front_row (w ∷ xs) rows zero x is = let same : w ≡ x = cc in ap g same
    front_row (w ∷ xs) rows (suc n) x is = front_row xs rows n x is

    pub behind_row : (xs : List A) (rows : List (List Y)) (k n : ℕ) → n ≡ length xs + k → get_or (map g xs ++ rows) n [] ≡ get_or rows k []
    behind_row [] rows k n is = ap (λ i. get_or rows i []) (omega arith)
    behind_row (w ∷ xs) rows k zero is = absurd (omega arith)
    behind_row (w ∷ xs) rows k (suc n) is = behind_row xs rows k n (omega arith)
