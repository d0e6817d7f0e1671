-- Where an item of some key is, or would go, in a list in the order of keys.
use Rattle.std.specs.Prelude.{◌≡◌, ℕ, suc, ◌<◌, ◌≤◌, Some, None, List, take, drop, length, filter, find, remove, not, position}
use Rattle.std.specs.Str.{bytes_eq}
use Rattle.std.specs.Cmp.Lexicographic.{slice_cmp}
use Rattle.std.specs.List.{HoldsAt}
use Rattle.std.specs.Ordering.{nat_cmp, is_lt, is_gt}

-- the item of that key is at place i, between the items before it and those after it
pub record IsPlaceOf {X : Type 0} (key_of : X → List ℕ) (key : List ℕ) (xs : List X) (i : ℕ) : Type 0 where
  pub in_range : i < length xs
  pub front : take i xs ≡ filter (λ x. is_lt (slice_cmp nat_cmp (key_of x) key)) xs
  pub first : position (λ x. bytes_eq (key_of x) key) xs ≡ Some i
  pub here : HoldsAt (λ x. find (λ y. bytes_eq (key_of y) key) xs ≡ Some x) xs i
  pub others : remove xs i ≡ filter (λ x. not (bytes_eq (key_of x) key)) xs
  pub back : drop (suc i) xs ≡ filter (λ x. is_gt (slice_cmp nat_cmp (key_of x) key)) xs

-- no item has that key, and it would go to place i
pub record IsGapFor {X : Type 0} (key_of : X → List ℕ) (key : List ℕ) (xs : List X) (i : ℕ) : Type 0 where
  pub in_range : i ≤ length xs
  pub front : take i xs ≡ filter (λ x. is_lt (slice_cmp nat_cmp (key_of x) key)) xs
  pub nowhere : position (λ x. bytes_eq (key_of x) key) xs ≡ None
  pub none : find (λ x. bytes_eq (key_of x) key) xs ≡ None
  pub others : xs ≡ filter (λ x. not (bytes_eq (key_of x) key)) xs
  pub back : drop i xs ≡ filter (λ x. is_gt (slice_cmp nat_cmp (key_of x) key)) xs
