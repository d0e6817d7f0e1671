-- First places in a list that grows at its end.
use Rattle.std.proofs.Common.{◌≡◌, ℕ, ◌≤◌, Bool, true, false, cond, ◌||◌, List, [], ◌∷◌, ◌++◌, length, Some, None, is_some, refl, sym, ◌∙◌, ap, subst, arith}
use Rattle.std.specs.Bool.{nat_lt}
use Rattle.std.specs.Cmp.Lexicographic.{bytes_decides}
use Rattle.std.specs.List.{list_any, position, position_or_len}
use Rattle.std.specs.Str.{bytes_eq}
use Rattle.std.proofs.lemmas.Grind.{common_steps}
use Rattle.std.proofs.lemmas.List.Folds.{position_or_len_push, list_any-append}

module _ {X : Type 0} (p : X → Bool) where
  lt_is_any : (xs : List X) → nat_lt (position_or_len p xs) (length xs) ≡ list_any p xs
  lt_is_any [] = refl
  lt_is_any (x ∷ xs) = grind (arith, common_steps, lt_is_any xs)

  position_is : (xs : List X) → position p xs ≡ cond (list_any p xs) (Some (position_or_len p xs)) None
  position_is xs = ap (λ b. cond b (Some (position_or_len p xs)) None) (lt_is_any xs)

  pub is_some_position : (xs : List X) → is_some (position p xs) ≡ list_any p xs
  is_some_position xs = rw (position_is xs) (elim (list_any p xs) as (λ b. is_some (cond b (Some (position_or_len p xs)) None) ≡ b) [ true ↦ refl | false ↦ refl ])

  any_push : (xs : List X) (y : X) → list_any p (xs ++ y ∷ []) ≡ (list_any p xs || p y)
  any_push xs y = grind (arith, common_steps, list_any-append p xs (y ∷ []))

  first_stays : (xs : List X) (y : X) → list_any p xs ≡ true → position_or_len p (xs ++ y ∷ []) ≡ position_or_len p xs
  first_stays xs y h = grind (arith, common_steps, lt_is_any xs, position_or_len_push p xs y)

  pub position_push_found : (xs : List X) (y : X) → list_any p xs ≡ true → position p (xs ++ y ∷ []) ≡ position p xs
  position_push_found xs y h = rw (position_is (xs ++ y ∷ []), position_is xs, any_push xs y, h, first_stays xs y h) refl

  pub position_push_other : (xs : List X) (y : X) → list_any p xs ≡ false → p y ≡ false → position p (xs ++ y ∷ []) ≡ None
  position_push_other xs y h q = rw (position_is (xs ++ y ∷ []), any_push xs y, h, q) refl

  pub position_none : (xs : List X) → list_any p xs ≡ false → position p xs ≡ None
  position_none xs h = rw (position_is xs, h) refl

  first_within : (xs : List X) → position_or_len p xs ≤ length xs
  first_within [] = omega arith
  first_within (x ∷ xs) = grind (arith, common_steps, first_within xs)

  first_here : (xs : List X) (y : X) → list_any p xs ≡ false → p y ≡ true → position_or_len p (xs ++ y ∷ []) ≡ length xs
  first_here xs y h q = grind (arith, common_steps, lt_is_any xs, first_within xs, position_or_len_push p xs y)

  pub position_push_here : (xs : List X) (y : X) → list_any p xs ≡ false → p y ≡ true → position p (xs ++ y ∷ []) ≡ Some (length xs)
  position_push_here xs y h q = rw (position_is (xs ++ y ∷ []), any_push xs y, h, q, first_here xs y h q) refl

  -- the first of the items is found at the place 0
  pub position_at_head : (y : X) (xs : List X) → p y ≡ true → position p (y ∷ xs) ≡ Some 0
  position_at_head y xs q = grind (arith, common_steps, q)

  -- an item that is not looked for moves no first place
  pub position_push_apart : (xs : List X) (y : X) → p y ≡ false → position p (xs ++ y ∷ []) ≡ position p xs
  position_push_apart xs y apart = by_found (list_any p xs) refl
    where
      by_found : (b : Bool) → list_any p xs ≡ b → position p (xs ++ y ∷ []) ≡ position p xs
      by_found true found = position_push_found xs y found
      by_found false found = position_push_other xs y found apart ∙ sym (position_none xs found)

module _ (names : List (List ℕ)) (name : List ℕ) where
  -- a name that stands in the list already moves no first place
  pub first_places_stay : list_any (bytes_eq name) names ≡ true → (q : List ℕ) → position (bytes_eq q) (names ++ name ∷ []) ≡ position (bytes_eq q) names
  first_places_stay stands q = by_same (bytes_eq q name) refl
    where
      by_same : (b : Bool) → bytes_eq q name ≡ b → position (bytes_eq q) (names ++ name ∷ []) ≡ position (bytes_eq q) names
      by_same true same = position_push_found (bytes_eq q) names name (subst (λ t. list_any (bytes_eq t) names ≡ true) (sym ((bytes_decides q name).0 same)) stands)
      by_same false other = position_push_apart (bytes_eq q) names name other
