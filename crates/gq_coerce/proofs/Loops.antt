-- The loops that put items and entries, over what they are made of.
use Rattle.std.proofs.Common.{◌≡◌, ℕ, ◌+◌, ◌<◌, ◌≤◌, Bool, true, false, cond, List, [], ◌∷◌, ◌++◌, map, drop, take, length, get_or, Option, Some, None, refl, ap, sym, ◌∙◌, suc, zero, arith, append-nil, append_assoc}
use Rattle.std.specs.Option.{option_map}
use Rattle.std.proofs.lemmas.Option.{same_Some, none-some}
use Rattle.gq_meaning.specs.Values.{Text, Value}
use Rattle.gq_coerce.specs.Coerced.{Coerced, absent, fault, given, unnamed, Part, or_missing, item_before, items_of, put_entry, entry_with, entries_of}
use Rattle.gq_coerce.specs.Helping.Readings.{item_after}

-- what stands at a place, and what is behind it
pub at_place : {X : Type 0} (xs : List X) (k : ℕ) (x : X) → k < length xs → x ≡ get_or xs k x → drop k xs ≡ x ∷ drop (k + 1) xs
at_place [] k x within is = absurd (omega (arith, within))
at_place (y ∷ ys) zero x within is = ap (λ z. z ∷ ys) (sym is)
at_place (y ∷ ys) (suc k) x within is =
    let e : suc k + 1 ≡ suc (k + 1) = omega arith in
    at_place ys k x (omega (arith, within)) is ∙ ap (λ n. x ∷ drop n (y ∷ ys)) (sym e)

pub nothing_behind : {X : Type 0} (xs : List X) → drop (length xs) xs ≡ []
nothing_behind [] = refl
nothing_behind (x ∷ xs) = nothing_behind xs

pub all_behind : {X : Type 0} (xs : List X) (k : ℕ) → length xs ≤ k → drop k xs ≡ []
all_behind [] zero h = refl
all_behind [] (suc k) h = refl
all_behind (x ∷ xs) zero h = absurd (omega (arith, h))
all_behind (x ∷ xs) (suc k) h = all_behind xs k (omega (arith, h))

-- one more item of a list
joined : (old more : List Value) (rest : Option (List Value)) → option_map (λ m. old ++ m) (option_map (λ m. more ++ m) rest) ≡ option_map (λ m. (old ++ more) ++ m) rest
joined old more None = refl
joined old more (Some rest) = ap Some (sym (append_assoc old more rest))

one_before : (v : Value) (rest : Option (List Value)) → item_before (given v) rest ≡ option_map (λ m. (unnamed v ∷ []) ++ m) rest
one_before v None = refl
one_before v (Some rest) = refl

nothing_before : (old : List Value) (rest : Option (List Value)) → option_map (λ m. old ++ m) rest ≡ option_map (λ m. (old ++ []) ++ m) rest
nothing_before old rest = ap (λ xs. option_map (λ m. xs ++ m) rest) (sym (append-nil old))

fits_by : (is : Coerced) (old new : List Value) (rest : Option (List Value)) → Some new ≡ option_map (λ m. old ++ m) (item_before is (Some [])) →
    option_map (λ m. old ++ m) (item_before is rest) ≡ option_map (λ m. new ++ m) rest
fits_by absent old new rest h = nothing_before old rest ∙ ap (λ xs. option_map (λ m. xs ++ m) rest) (sym (same_Some new (old ++ []) h))
fits_by fault old new rest h = absurd (none-some new (sym h))
fits_by (given v) old new rest h =
    ap (λ o. option_map (λ m. old ++ m) o) (one_before v rest) ∙ joined old (unnamed v ∷ []) rest ∙ ap (λ xs. option_map (λ m. xs ++ m) rest) (sym (same_Some new (old ++ unnamed v ∷ []) h))

faults_by : (is : Coerced) (old : List Value) (rest : Option (List Value)) → None ≡ option_map (λ m. old ++ m) (item_before is (Some [])) → item_before is rest ≡ None
faults_by absent old rest h = absurd (none-some (old ++ []) h)
faults_by fault old rest h = refl
faults_by (given v) old rest h = absurd (none-some (old ++ unnamed v ∷ []) h)

-- The items so far, and those that are left. Each is made of an x, read by f.
module _ {X : Type 0} (missing : Coerced) (f : X → Part) (xs : List X) where
  abbrev pub IsSoFar : List Value → ℕ → Type 0
  IsSoFar so_far k = items_of missing (map f xs) ≡ option_map (λ m. so_far ++ m) (items_of missing (map f (drop k xs)))

  pub items_begin : (so_far : List Value) → so_far ≡ [] → IsSoFar so_far 0
  items_begin so_far is = none_before (items_of missing (map f xs)) ∙ ap (λ vs. option_map (λ m. vs ++ m) (items_of missing (map f xs))) (sym is)
    where
      none_before : (o : Option (List Value)) → o ≡ option_map (λ m. [] ++ m) o
      none_before None = refl
      none_before (Some vs) = refl

  -- the item at a place
  at_item : (k : ℕ) (x : X) → k < length xs → x ≡ get_or xs k x → items_of missing (map f (drop k xs)) ≡ item_before (or_missing missing (f x).is) (items_of missing (map f (drop (k + 1) xs)))
  at_item k x within is = ap (λ ys. items_of missing (map f ys)) (at_place xs k x within is)

  pub items_more : (k : ℕ) (x : X) (old new : List Value) (c : Coerced) → k < length xs → x ≡ get_or xs k x → c ≡ (f x).is → Some new ≡ item_after old missing c → IsSoFar old k → IsSoFar new (k + 1)
  items_more k x old new c within is reads put so_far =
      so_far ∙ ap (λ o. option_map (λ m. old ++ m) o) (at_item k x within is)
      ∙ fits_by (or_missing missing (f x).is) old new (items_of missing (map f (drop (k + 1) xs))) (put ∙ ap (λ c. item_after old missing c) reads)

  pub items_fault : (k : ℕ) (x : X) (old : List Value) (c : Coerced) → k < length xs → x ≡ get_or xs k x → c ≡ (f x).is → None ≡ item_after old missing c → IsSoFar old k → items_of missing (map f xs) ≡ None
  items_fault k x old c within is reads put so_far =
      so_far ∙ ap (λ o. option_map (λ m. old ++ m) o)
      (at_item k x within is ∙ faults_by (or_missing missing (f x).is) old (items_of missing (map f (drop (k + 1) xs))) (put ∙ ap (λ c. item_after old missing c) reads))

  pub items_end : (k : ℕ) (so_far : List Value) → length xs ≤ k → IsSoFar so_far k → items_of missing (map f xs) ≡ Some so_far
  items_end k so_far past so_far_is =
      so_far_is ∙ ap (λ ys. option_map (λ m. so_far ++ m) (items_of missing (map f ys))) (all_behind xs k past) ∙ ap Some (append-nil so_far)

-- one that is at fault leaves no entries
fault_before : (p : Part) (o : Option (List Value)) → o ≡ None → entry_with p.key p.is o ≡ None
fault_before p o is = ap (λ o. entry_with p.key p.is o) is

pub fault_kept : {X : Type 0} (f : X → Part) (xs : List X) (k : ℕ) → entries_of (map f (drop k xs)) ≡ None → entries_of (map f xs) ≡ None
fault_kept f [] zero h = h
fault_kept f [] (suc k) h = h
fault_kept f (x ∷ xs) zero h = h
fault_kept f (x ∷ xs) (suc k) h = fault_before (f x) (entries_of (map f xs)) (fault_kept f xs k h)

-- The entries of what stands from a place on, which goes down.
module _ {X : Type 0} (f : X → Part) (xs : List X) where
  abbrev pub AreFrom : List Value → ℕ → Type 0
  AreFrom entries k = Some entries ≡ entries_of (map f (drop k xs))

  pub entries_begin : (entries : List Value) (k : ℕ) → entries ≡ [] → k ≡ length xs → AreFrom entries k
  entries_begin entries k none all = ap Some none ∙ ap (λ ys. entries_of (map f ys)) (sym (nothing_behind xs) ∙ ap (λ n. drop n xs) (sym all))

  at_entry : (k : ℕ) (x : X) → k < length xs → x ≡ get_or xs k x → entries_of (map f (drop k xs)) ≡ entry_with (f x).key (f x).is (entries_of (map f (drop (k + 1) xs)))
  at_entry k x within is = ap (λ ys. entries_of (map f ys)) (at_place xs k x within is)

  module _ (k : ℕ) (x : X) (name : Text) (old : List Value) (c : Coerced) (within : k < length xs) (is : x ≡ get_or xs k x) (named : (f x).key ≡ Some name) (reads : c ≡ (f x).is) (are : AreFrom old (k + 1)) where
    put_here : entry_with (Some name) c (Some old) ≡ entries_of (map f (drop k xs))
    put_here =
        ap (λ o. entry_with (Some name) c o) are ∙ ap (λ c. entry_with (Some name) c (entries_of (map f (drop (k + 1) xs)))) reads
        ∙ ap (λ n. entry_with n (f x).is (entries_of (map f (drop (k + 1) xs)))) (sym named) ∙ sym (at_entry k x within is)

    pub entries_more : (new : List Value) → Some new ≡ entry_with (Some name) c (Some old) → AreFrom new k
    entries_more new put = put ∙ put_here

    pub entries_fault : None ≡ entry_with (Some name) c (Some old) → entries_of (map f xs) ≡ None
    entries_fault put = fault_kept f xs k (sym (put ∙ put_here))

  pub entries_end : (entries : List Value) → AreFrom entries 0 → Some entries ≡ entries_of (map f xs)
  entries_end entries are = are
