-- Lists in the order of their keys: what stands before a key, at it and after it.
use Rattle.std.proofs.Common.{◌≡◌, ℕ, suc, ◌<◌, ◌≤◌, Bool, true, false, cond, not, ◌&&◌, Contains, List, [], ◌∷◌, ◌++◌, length, get_or, Some, None, Result, Ok, Err, IfOk, IfErr, filter, find, refl, sym, ◌∙◌, ap, subst, inl, inr, arith, ◌≢◌, Option, set}
use Rattle.std.specs.Option.{option_or, option_and_then}
use Rattle.std.specs.Str.{bytes_eq}
use Rattle.std.specs.Cmp.{IsTotalOrder}
use Rattle.std.specs.Cmp.Lexicographic.{slice_cmp, nat_list_cmp_total, bytes_decides}
use Rattle.std.specs.List.{AllWithin, AllByRecursion, HoldsAt, insert}
use Rattle.std.proofs.lemmas.List.{set_split, get_or_default}
use Rattle.std.specs.List.Sorted.{IsStrictlySortedBy, IsNonDecreasingBy, IsBinarySearchResult, IsSearchInRange}
use Rattle.std.specs.declared.cmp.Ordering.{Ordering}
use Rattle.std.specs.declared.cmp.Ordering.TheVariants.{Less, Equal, Greater}
use Rattle.std.specs.Ordering.{nat_cmp, is_lt, is_gt, is_eq, ordering_index, ordering_reverse}
use Rattle.std.proofs.lemmas.Cmp.{alike_right, tied_itself}
use Rattle.std.proofs.lemmas.Map.Keys.{Less-from_sorted}
use Rattle.std.proofs.lemmas.Map.Text.{is_eq-slice_cmp}
use Rattle.std.proofs.lemmas.Bool.{cases_lt, cases_order, both_ways, false_from_ne_true, not_from_false, cond-true, cond-false, and_left, and_from}
use Rattle.std.proofs.lemmas.List.Elements.{recursion_from_All, All-weaker, filter_passes}
use Rattle.std.proofs.lemmas.List.Kept.{IsStrictlySortedBy-filter}
use Rattle.std.proofs.lemmas.List.Folds.{find-append}
use Rattle.gq_project.specs.Helping.Places.{IsPlaceOf, IsGapFor}
use Rattle.gq_project.proofs.Filters.{Tests, find-filter_keeps, find-filter_loses, filter_all, filter_front, filter_back, filter_but_one, find_at, find_none, position_at, position_none}

-- how two keys stand by their bytes
abbrev pub key_cmp : List ℕ → List ℕ → Ordering
key_cmp = slice_cmp nat_cmp

pub key_total : IsTotalOrder key_cmp
key_total = nat_list_cmp_total

-- what the three tests of a key say where its comparison answers r
pub record Answers (a k : List ℕ) (r : Ordering) : Type 0 where
  pub before : is_lt (key_cmp a k) ≡ is_lt r
  pub at : bytes_eq a k ≡ is_eq r
  pub after : is_gt (key_cmp a k) ≡ is_gt r

pub answers : (a k : List ℕ) (r : Ordering) → key_cmp a k ≡ r → Answers a k r
answers a k r e = record { before = ap is_lt e; at = sym (is_eq-slice_cmp a k) ∙ ap is_eq e; after = ap is_gt e }

-- a key that comes before another stands no later against a third
rises : (a b k : List ℕ) → key_cmp a b ≡ Less → ordering_index (key_cmp a k) ≤ ordering_index (key_cmp b k)
rises a b k less = by (key_cmp b k) refl
  where
    at_most : (r : Ordering) → ordering_index r ≤ 2
    at_most Less = omega arith
    at_most Equal = omega arith
    at_most Greater = omega arith

    by : (r : Ordering) → key_cmp b k ≡ r → ordering_index (key_cmp a k) ≤ ordering_index (key_cmp b k)
    by Less e = rw (key_total.trans a b k less e, e) (omega arith)
    by Equal e = rw (sym (alike_right key_total b k a e) ∙ less, e) (omega arith)
    by Greater e = rw e (at_most (key_cmp a k))

-- keys in order differ
less_not_equal : (a b : List ℕ) → key_cmp a b ≡ Less → a ≡ b → ⊥
less_not_equal a b less same = both_ways (is_lt (key_cmp a b)) (ap is_lt (ap (λ (c : List ℕ). key_cmp a c) (sym same) ∙ tied_itself key_total a)) (ap is_lt less)

module _ {X : Type 0} (key_of : X → List ℕ) where
  -- the keys ascend
  abbrev pub Ascend : List X → Type 0
  Ascend xs = IsStrictlySortedBy (λ x y. key_cmp (key_of x) (key_of y)) xs

  -- the tests of an item's key
  abbrev pub is_before : List ℕ → X → Bool
  is_before k x = is_lt (key_cmp (key_of x) k)

  abbrev pub is_at : List ℕ → X → Bool
  is_at k x = bytes_eq (key_of x) k

  abbrev pub is_after : List ℕ → X → Bool
  is_after k x = is_gt (key_cmp (key_of x) k)

  abbrev pub is_elsewhere : List ℕ → X → Bool
  is_elsewhere k x = not (is_at k x)

  module _ (xs : List X) (sorted : Ascend xs) (k : List ℕ) where
    -- the comparisons with a key do not fall along the list, as a binary search asks
    comparisons_rise : IsNonDecreasingBy (λ x. ordering_index (key_cmp (key_of x) k)) xs
    comparisons_rise i j d le below = elim (cases_order i j) [
      | inl same ↦ rw same (omega arith)
      | inr (inl less) ↦ rises _ _ k (Less-from_sorted _ xs i j d sorted less below)
      | inr (inr more) ↦ absurd (omega arith)
    ]

    -- the comparison answers r from low up to high
    abbrev Compares : Ordering → ℕ → ℕ → Type 0
    Compares r low high = AllWithin (λ x. key_cmp (key_of x) k ≡ r) xs low high

    before_where : (r : Ordering) (low high : ℕ) → Compares r low high → Tests (is_before k) (is_lt r) xs low high
    before_where r low high h j d from below = (answers _ k r (h j d from below)).before

    at_where : (r : Ordering) (low high : ℕ) → Compares r low high → Tests (is_at k) (is_eq r) xs low high
    at_where r low high h j d from below = (answers _ k r (h j d from below)).at

    after_where : (r : Ordering) (low high : ℕ) → Compares r low high → Tests (is_after k) (is_gt r) xs low high
    after_where r low high h j d from below = (answers _ k r (h j d from below)).after

    elsewhere_where : (r : Ordering) (low high : ℕ) → Compares r low high → Tests (is_elsewhere k) (not (is_eq r)) xs low high
    elsewhere_where r low high h j d from below = ap not ((answers _ k r (h j d from below)).at)

    -- a test that answers the same up to mid and from mid on
    joined : (p : X → Bool) (b : Bool) (low mid high : ℕ) → Tests p b xs low mid → Tests p b xs mid high → Tests p b xs low high
    joined p b low mid high h g j d from below = elim (cases_lt j mid) [ inl less ↦ h j d from less | inr more ↦ g j d more below ]

    -- the key is at place i: the keys below are smaller, and those above greater
    place : (i : ℕ) → i < length xs → Compares Less 0 i → Compares Equal i (suc i) → Compares Greater (suc i) (length xs) → IsPlaceOf key_of k xs i
    place i below less equal greater = record {
      in_range = below;
      front = sym (filter_front (is_before k) xs i (before_where Less 0 i less) (joined (is_before k) false i (suc i) _ (before_where Equal i _ equal) (before_where Greater _ _ greater)));
      first = position_at (is_at k) xs i (at_where Less 0 i less) (at_where Equal i _ equal) below;
      here = λ d. find_at (is_at k) xs i d (at_where Less 0 i less) (at_where Equal i _ equal) below;
      others = sym (filter_but_one (is_elsewhere k) xs i (elsewhere_where Less 0 i less) (elsewhere_where Equal i _ equal) (elsewhere_where Greater _ _ greater) below);
      back = sym (filter_back (is_after k) xs (suc i) (joined (is_after k) false 0 i _ (after_where Less 0 i less) (after_where Equal i _ equal)) (after_where Greater _ _ greater));
    }

    -- the key is not there: the keys below place i are smaller, and those from it on greater
    gap : (i : ℕ) → i ≤ length xs → Compares Less 0 i → Compares Greater i (length xs) → IsGapFor key_of k xs i
    gap i upto less greater = record {
      in_range = upto;
      front = sym (filter_front (is_before k) xs i (before_where Less 0 i less) (before_where Greater i _ greater));
      nowhere = position_none (is_at k) xs (joined (is_at k) false 0 i _ (at_where Less 0 i less) (at_where Greater i _ greater));
      none = find_none (is_at k) xs (joined (is_at k) false 0 i _ (at_where Less 0 i less) (at_where Greater i _ greater));
      others = sym (filter_all (is_elsewhere k) xs (joined (is_elsewhere k) true 0 i _ (elsewhere_where Less 0 i less) (elsewhere_where Greater i _ greater)));
      back = sym (filter_back (is_after k) xs i (after_where Less 0 i less) (after_where Greater i _ greater));
    }

    -- around an item of that key
    module _ (i : ℕ) (below : i < length xs) (equal : HoldsAt (λ x. key_cmp (key_of x) k ≡ Equal) xs i) where
      less_below : Compares Less 0 i
      less_below j d from less =
          sym (alike_right key_total (key_of (get_or xs i d)) k (key_of (get_or xs j d)) (equal d)) ∙ Less-from_sorted _ xs j i d sorted less below

      equal_here : Compares Equal i (suc i)
      equal_here j d from less = let same : j ≡ i = omega arith in rw same (equal d)

      greater_above : Compares Greater (suc i) (length xs)
      greater_above j d from inside =
          key_total.antisymm (key_of (get_or xs j d)) k
          ∙ ap ordering_reverse (sym (key_total.congr (key_of (get_or xs i d)) k (key_of (get_or xs j d)) (equal d)) ∙ Less-from_sorted _ xs i j d sorted (omega arith) inside)

    -- a binary search by key ends at the key, or at the gap for it
    pub searched : (r : Result ℕ ℕ) → IsSearchInRange r (length xs) → IsBinarySearchResult (λ x. key_cmp (key_of x) k) xs r → record { found : IfOk r (IsPlaceOf key_of k xs); absent : IfErr r (IsGapFor key_of k xs) }
    searched (Ok i) below equal = record { found = place i below (less_below i below equal) (equal_here i below equal) (greater_above i below equal); absent = tt }
    searched (Err i) upto parted = record { found = tt; absent = let parts = parted comparisons_rise in gap i upto parts.0 parts.1 }

  abbrev by_key : X → X → Ordering
  by_key x y = key_cmp (key_of x) (key_of y)

  below_all : (x y : X) (zs : List X) → by_key x y ≡ Less → AllByRecursion (λ z. by_key y z ≡ Less) zs → AllByRecursion (λ z. by_key x z ≡ Less) zs
  below_all x y [] less rest = tt
  below_all x y (z ∷ zs) less rest = (key_total.trans (key_of x) (key_of y) (key_of z) less rest.0, below_all x y zs less rest.1)

  all_append : (P : X → Type 0) (xs ys : List X) → AllByRecursion P xs → AllByRecursion P ys → AllByRecursion P (xs ++ ys)
  all_append P [] ys h g = g
  all_append P (x ∷ xs) ys h g = (h.0, all_append P xs ys h.1 g)

  -- an item between two lists that ascend
  Ascend-join : (xs : List X) (y : X) (zs : List X) → Ascend xs → AllByRecursion (λ x. by_key x y ≡ Less) xs → AllByRecursion (λ z. by_key y z ≡ Less) zs → Ascend zs → Ascend (xs ++ y ∷ zs)
  unfolding IsStrictlySortedBy
  Ascend-join [] y zs front below above back = (above, back)
  Ascend-join (x ∷ xs) y zs front below above back =
      (all_append (λ z. by_key x z ≡ Less) xs (y ∷ zs) front.0 (below.0, below_all x y zs below.0 above), Ascend-join xs y zs front.1 below.1 above back)

  less_from_test : (r : Ordering) → is_lt r ≡ true → r ≡ Less
  less_from_test Less e = refl
  less_from_test Equal e = absurd (both_ways false refl e)
  less_from_test Greater e = absurd (both_ways false refl e)

  greater_from_test : (r : Ordering) → is_gt r ≡ true → r ≡ Greater
  greater_from_test Less e = absurd (both_ways false refl e)
  greater_from_test Equal e = absurd (both_ways false refl e)
  greater_from_test Greater e = refl

  all_before : (k : List ℕ) (xs : List X) → AllByRecursion (λ x. key_cmp (key_of x) k ≡ Less) (filter (is_before k) xs)
  all_before k xs = recursion_from_All _ _ (All-weaker (λ x. is_before k x ≡ true) (λ x. key_cmp (key_of x) k ≡ Less) (λ x e. less_from_test (key_cmp (key_of x) k) e) _ (filter_passes (is_before k) xs))

  all_after : (k : List ℕ) (xs : List X) → AllByRecursion (λ x. key_cmp k (key_of x) ≡ Less) (filter (is_after k) xs)
  all_after k xs = recursion_from_All _ _ (All-weaker (λ x. is_after k x ≡ true) (λ x. key_cmp k (key_of x) ≡ Less) (λ x e. key_total.antisymm k (key_of x) ∙ ap ordering_reverse (greater_from_test (key_cmp (key_of x) k) e)) _ (filter_passes (is_after k) xs))

  -- the items with y in its place, where it replaces the one of its key
  abbrev pub with_item : List X → X → List X
  with_item xs y = filter (is_before (key_of y)) xs ++ y ∷ filter (is_after (key_of y)) xs

  pub Ascend-with_item : (xs : List X) (y : X) → Ascend xs → Ascend (with_item xs y)
  Ascend-with_item xs y h =
      Ascend-join _ y _ (IsStrictlySortedBy-filter _ _ xs h) (all_before (key_of y) xs) (all_after (key_of y) xs) (IsStrictlySortedBy-filter _ _ xs h)

  -- an item of the key k answers the tests of the key l as k does
  answers_like : (k l : List ℕ) (x : X) → is_at k x ≡ true → (r : Ordering) → key_cmp k l ≡ r → Answers (key_of x) l r
  answers_like k l x e r is = answers (key_of x) l r (ap (λ (a : List ℕ). key_cmp a l) ((bytes_decides (key_of x) k).0 e) ∙ is)

  pub find-with_item_same : (xs : List X) (y : X) → find (is_at (key_of y)) (with_item xs y) ≡ Some y
  find-with_item_same xs y =
      let k = key_of y in
      let front : find (is_at k) (filter (is_before k) xs) ≡ None = find-filter_loses _ _ (λ x e. (answers_like k k x e Equal (tied_itself key_total k)).before) xs in
      let here : is_at k y ≡ true = (bytes_decides k k).1 refl in
      rw (find-append, front, here)

  pub find-with_item_other : (xs : List X) (y : X) (k : List ℕ) → k ≢ key_of y → find (is_at k) (with_item xs y) ≡ find (is_at k) xs
  find-with_item_other xs y k differs = by (key_cmp k l) refl
    where
      l : List ℕ
      l = key_of y

      no_more : (o : Option X) → option_or o None ≡ o
      no_more None = refl
      no_more (Some x) = refl

      not_here : is_at k y ≡ false
      not_here = false_from_ne_true _ (λ e. differs (sym ((bytes_decides l k).0 e)))

      by : (r : Ordering) → key_cmp k l ≡ r → find (is_at k) (with_item xs y) ≡ find (is_at k) xs
      by Less e =
          let front : find (is_at k) (filter (is_before l) xs) ≡ find (is_at k) xs = find-filter_keeps _ _ (λ x h. (answers_like k l x h Less e).before) xs in
          let back : find (is_at k) (filter (is_after l) xs) ≡ None = find-filter_loses _ _ (λ x h. (answers_like k l x h Less e).after) xs in
          rw (find-append, front, not_here, back) (no_more _)
      by Equal e = absurd (differs ((bytes_decides k l).0 (sym (is_eq-slice_cmp k l) ∙ ap is_eq e)))
      by Greater e =
          let front : find (is_at k) (filter (is_before l) xs) ≡ None = find-filter_loses _ _ (λ x h. (answers_like k l x h Greater e).before) xs in
          let back : find (is_at k) (filter (is_after l) xs) ≡ find (is_at k) xs = find-filter_keeps _ _ (λ x h. (answers_like k l x h Greater e).after) xs in
          rw (find-append, front, not_here, back)

  -- without the item of a key
  abbrev pub without_item : List X → List ℕ → List X
  without_item xs l = filter (is_elsewhere l) xs

  pub Ascend-without_item : (xs : List X) (l : List ℕ) → Ascend xs → Ascend (without_item xs l)
  Ascend-without_item xs l h = IsStrictlySortedBy-filter _ _ xs h

  pub find-without_item_same : (xs : List X) (l : List ℕ) → find (is_at l) (without_item xs l) ≡ None
  find-without_item_same xs l = find-filter_loses _ _ (λ x e. ap not e) xs

  pub find-without_item_other : (xs : List X) (l k : List ℕ) → k ≢ l → find (is_at k) (without_item xs l) ≡ find (is_at k) xs
  find-without_item_other xs l k differs =
      find-filter_keeps _ _ (λ x e. not_from_false _ (false_from_ne_true _ (λ g. differs (sym ((bytes_decides (key_of x) k).0 e) ∙ (bytes_decides (key_of x) l).0 g)))) xs

  -- an item written over the one of its key, or put into the gap for it
  pub set_with_item : (xs : List X) (k : List ℕ) (i : ℕ) (y : X) → IsPlaceOf key_of k xs i → k ≡ key_of y → set xs i y ≡ with_item xs y
  set_with_item xs k i y place e = set_split xs i y place.in_range ∙ rw (place.front, place.back, e)

  pub insert_with_item : (xs : List X) (k : List ℕ) (i : ℕ) (y : X) → IsGapFor key_of k xs i → k ≡ key_of y → insert xs i y ≡ with_item xs y
  insert_with_item xs k i y gap e = rw (gap.front, gap.back, e)

  -- no item of a list in order has the key of one before them all
  find_above : (x : X) (xs : List X) → AllByRecursion (λ y. by_key x y ≡ Less) xs → find (is_at (key_of x)) xs ≡ None
  find_above x [] h = refl
  find_above x (y ∷ ys) h =
      let not_here : is_at (key_of x) y ≡ false = false_from_ne_true _ (λ e. absurd (less_not_equal (key_of x) (key_of y) h.0 (sym ((bytes_decides (key_of y) (key_of x)).0 e)))) in
      rw not_here (find_above x ys h.1)

  find-first : (x : X) (xs : List X) → find (is_at (key_of x)) (x ∷ xs) ≡ Some x
  find-first x xs = cond-true (is_at (key_of x) x) _ _ ((bytes_decides (key_of x) (key_of x)).1 refl)

  find-later : (k : List ℕ) (x : X) (xs : List X) → k ≢ key_of x → find (is_at k) (x ∷ xs) ≡ find (is_at k) xs
  find-later k x xs differs = cond-false (is_at k x) _ _ (false_from_ne_true _ (λ e. differs (sym ((bytes_decides (key_of x) k).0 e))))

  -- two lists in order in which each key finds the same
  abbrev FindSame : List X → List X → Type 0
  FindSame xs ys = (k : List ℕ) → find (is_at k) xs ≡ find (is_at k) ys

  -- the first of one does not come before the first of the other
  not_before : (x : X) (xs : List X) (y : X) (ys : List X) → AllByRecursion (λ z. by_key y z ≡ Less) ys → FindSame (x ∷ xs) (y ∷ ys) → by_key x y ≡ Less → ⊥
  not_before x xs y ys above same less =
      let found = sym (find-first x xs) ∙ same (key_of x) in
      let none = find_above x (y ∷ ys) (less, below_all x y ys less above) in
      let clash : Some x ≡ None = found ∙ none in cc

  same_rest : (x : X) (xs ys : List X) → AllByRecursion (λ z. by_key x z ≡ Less) xs → AllByRecursion (λ z. by_key x z ≡ Less) ys → FindSame (x ∷ xs) (x ∷ ys) → FindSame xs ys
  same_rest x xs ys h g same k = by (bytes_eq k (key_of x)) refl
    where
      by : (b : Bool) → bytes_eq k (key_of x) ≡ b → find (is_at k) xs ≡ find (is_at k) ys
      by true e = rw ((bytes_decides k (key_of x)).0 e) (find_above x xs h ∙ sym (find_above x ys g))
      by false e =
          let differs : k ≢ key_of x = λ same_key. both_ways (bytes_eq k (key_of x)) e ((bytes_decides k (key_of x)).1 same_key) in
          sym (find-later k x xs differs) ∙ same k ∙ find-later k x ys differs

  same_first : (x y : X) (xs ys : List X) → AllByRecursion (λ z. by_key x z ≡ Less) xs → AllByRecursion (λ z. by_key y z ≡ Less) ys → FindSame (x ∷ xs) (y ∷ ys) → x ≡ y
  same_first x y xs ys h g same = by (by_key x y) refl
    where
      by : (r : Ordering) → by_key x y ≡ r → x ≡ y
      by Less e = absurd (not_before x xs y ys g same e)
      by Equal e =
          let same_key : key_of x ≡ key_of y = (bytes_decides (key_of x) (key_of y)).0 (sym (is_eq-slice_cmp (key_of x) (key_of y)) ∙ ap is_eq e) in
          let both : Some x ≡ Some y = sym (find-first x xs) ∙ same (key_of x) ∙ subst (λ (l : List ℕ). find (is_at l) (y ∷ ys) ≡ Some y) (sym same_key) (find-first y ys) in cc
      by Greater e = absurd (not_before y ys x xs h (λ k. sym (same k)) (key_total.antisymm (key_of y) (key_of x) ∙ ap ordering_reverse e))

  -- what each key finds settles a list in order
  pub Ascend_settled : (xs ys : List X) → Ascend xs → Ascend ys → FindSame xs ys → xs ≡ ys
  unfolding IsStrictlySortedBy
  Ascend_settled [] [] h g same = refl
  Ascend_settled [] (y ∷ ys) h g same = let clash : None ≡ Some y = same (key_of y) ∙ find-first y ys in cc
  Ascend_settled (x ∷ xs) [] h g same = let clash : Some x ≡ None = sym (find-first x xs) ∙ same (key_of x) in cc
  Ascend_settled (x ∷ xs) (y ∷ ys) h g same =
      let first : y ≡ x = sym (same_first x y xs ys h.0 g.0 same) in
      let above : AllByRecursion (λ z. by_key x z ≡ Less) ys = subst (λ (w : X). AllByRecursion (λ z. by_key w z ≡ Less) ys) first g.0 in
      let rest : FindSame xs ys = same_rest x xs ys h.0 above (subst (λ (w : X). FindSame (x ∷ xs) (w ∷ ys)) first same) in
      rw first (ap (λ (zs : List X). x ∷ zs) (Ascend_settled xs ys h.1 g.1 rest))

  -- where no item has the key, none has it and passes a further test
  find_and_none : (p : X → Bool) (k : List ℕ) (xs : List X) → find (is_at k) xs ≡ None → find (λ x. is_at k x && p x) xs ≡ None
  find_and_none p k [] e = refl
  find_and_none p k (x ∷ xs) e = by (is_at k x) refl (λ g. find_and_none p k xs g)
    where
      by : (b : Bool) → is_at k x ≡ b → (find (is_at k) xs ≡ None → find (λ y. is_at k y && p y) xs ≡ None) → find (λ y. is_at k y && p y) (x ∷ xs) ≡ None
      by true g rest = let clash : Some x ≡ None = rw g at e in cc
      by false g rest = rw g (rest (rw g at e))

  -- the one item of a key, where it passes a further test
  pub find-and : (p : X → Bool) (k : List ℕ) (xs : List X) → Ascend xs → find (λ x. is_at k x && p x) xs ≡ option_and_then (λ x. cond (p x) (Some x) None) (find (is_at k) xs)
  unfolding IsStrictlySortedBy
  find-and p k [] h = refl
  find-and p k (x ∷ xs) h = by (is_at k x) (p x) refl refl (find-and p k xs h.1)
    where
      by : (b c : Bool) → is_at k x ≡ b → p x ≡ c → find (λ y. is_at k y && p y) xs ≡ option_and_then (λ y. cond (p y) (Some y) None) (find (is_at k) xs)
          → find (λ y. is_at k y && p y) (x ∷ xs) ≡ option_and_then (λ y. cond (p y) (Some y) None) (find (is_at k) (x ∷ xs))
      by true true e g rest = rw (e, g)
      by true false e g rest = let same : key_of x ≡ k = (bytes_decides (key_of x) k).0 e in rw (e, g) (find_and_none p k xs (rw same at (find_above x xs h.0)))
      by false c e g rest = rw e rest

  -- the item of a key is found by any test that it passes and that asks for that key
  pub find-itself : (p : X → Bool) (xs : List X) (y : X) → Ascend xs → Contains xs y → p y ≡ true → find (λ x. is_at (key_of y) x && p x) xs ≡ Some y
  find-itself p xs y h place passes = find_at test xs place.0 y before here place.1 ∙ ap Some place.2
    where
      test : X → Bool
      test x = is_at (key_of y) x && p x

      it : (d : X) → get_or xs place.0 d ≡ y
      it d = get_or_default xs place.0 d y place.1 ∙ place.2

      before : Tests test false xs 0 place.0
      before j d from less =
          let ahead : key_cmp (key_of (get_or xs j d)) (key_of y) ≡ Less = subst (λ (z : X). by_key (get_or xs j d) z ≡ Less) (it d) (Less-from_sorted _ xs j place.0 d h less place.1) in
          and_left _ _ (false_from_ne_true _ (λ e. less_not_equal _ _ ahead ((bytes_decides (key_of (get_or xs j d)) (key_of y)).0 e)))

      here : Tests test true xs place.0 (suc place.0)
      here j d from less =
          let same : j ≡ place.0 = omega arith in
          rw (same, it d) (and_from _ _ ((bytes_decides (key_of y) (key_of y)).1 refl) passes)
