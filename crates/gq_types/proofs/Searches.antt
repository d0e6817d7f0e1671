-- Searches of lists, and of the tables that are made from them.
use Rattle.std.proofs.Common.{◌≡◌, ℕ, ◌+◌, ◌<◌, ◌≤◌, Bool, true, false, cond, not, List, [], ◌∷◌, Option, Some, None, length, map, refl, sym, ◌∙◌, ap, arith, add-one, suc, IfSome}
use Rattle.std.specs.Bool.{nat_lt}
use Rattle.std.specs.Option.{option_map, option_and_then, unwrap_or}
use Rattle.std.specs.List.{find, position, position_or_len, slice_get, list_any}
use Rattle.std.proofs.lemmas.Grind.{common_steps}

-- the first place counts on from the one before
by_first : (b : Bool) (n m : ℕ) → ◌≡◌ {A = Option ℕ} (cond (nat_lt (cond (not b) (1 + n) 0) (suc m)) (Some (cond (not b) (1 + n) 0)) None) (cond b (Some 0) (option_map (λ i. i + 1) (cond (nat_lt n m) (Some n) None)))
by_first true n m = grind (arith, common_steps)
by_first false n m = grind (arith, common_steps)

module _ {X : Type 0} (p : X → Bool) where
  pub position_cons : (x : X) (xs : List X) → position p (x ∷ xs) ≡ cond (p x) (Some 0) (option_map (λ i. i + 1) (position p xs))
  position_cons x xs = by_first (p x) (position_or_len p xs) (length xs)

  pub first_within : (xs : List X) → position_or_len p xs ≤ length xs
  first_within [] = omega arith
  first_within (x ∷ xs) = grind (arith, common_steps, first_within xs)

  by_place : (n m : ℕ) → n ≤ m → unwrap_or (cond (nat_lt n m) (Some n) None) m ≡ n
  by_place n m h = grind (arith, common_steps)

  pub place_or_length : (xs : List X) → unwrap_or (position p xs) (length xs) ≡ position_or_len p xs
  place_or_length xs = by_place (position_or_len p xs) (length xs) (first_within xs)

  place_within : (n m : ℕ) → IfSome (cond (nat_lt n m) (Some n) None) (λ i. i < m)
  place_within n m = grind (arith, common_steps)

  pub position_within : (xs : List X) → IfSome (position p xs) (λ i. i < length xs)
  position_within xs = place_within (position_or_len p xs) (length xs)

-- what stands at a place that counts on from one before
pub through_cons : {A : Type 0} (y : A) (ys : List A) (b : Bool) (o : Option ℕ) → option_and_then (λ i. slice_get (y ∷ ys) i) (cond b (Some 0) (option_map (λ i. i + 1) o)) ≡ cond b (Some y) (option_and_then (λ i. slice_get ys i) o)
through_cons y ys true o = refl
through_cons y ys false None = refl
through_cons y ys false (Some i) = rw add-one refl

module _ {X : Type 0} (p : X → Bool) where
  -- what is found is what stands at the first place
  pub find_through : (xs : List X) → find p xs ≡ option_and_then (λ i. slice_get xs i) (position p xs)
  find_through [] = refl
  find_through (x ∷ xs) =
      ap (λ rest. cond (p x) (Some x) rest) (find_through xs) ∙ sym (through_cons x xs (p x) (position p xs)) ∙ ap (λ o. option_and_then (λ i. slice_get (x ∷ xs) i) o) (sym (position_cons p x xs))

  pub position_agree : (q : X → Bool) → ((x : X) → p x ≡ q x) → (xs : List X) → position p xs ≡ position q xs
  position_agree q agree [] = refl
  position_agree q agree (x ∷ xs) =
      position_cons p x xs ∙ ap (λ b. cond b (Some 0) (option_map (λ i. i + 1) (position p xs))) (agree x) ∙ ap (λ o. cond (q x) (Some 0) (option_map (λ i. i + 1) o)) (position_agree q agree xs) ∙ sym (position_cons q x xs)

  pub position_map : {Y : Type 0} (f : Y → X) (ys : List Y) → position p (map f ys) ≡ position (λ y. p (f y)) ys
  position_map f [] = refl
  position_map f (y ∷ ys) =
      position_cons p (f y) (map f ys) ∙ ap (λ o. cond (p (f y)) (Some 0) (option_map (λ i. i + 1) o)) (position_map f ys) ∙ sym (position_cons (λ y. p (f y)) y ys)

  pub any_map : {Y : Type 0} (f : Y → X) (ys : List Y) → list_any p (map f ys) ≡ list_any (λ y. p (f y)) ys
  any_map f [] = refl
  any_map f (y ∷ ys) = grind (arith, common_steps, any_map f ys)

pub and_then_again : {A B C : Type 0} (f : A → Option B) (g : B → Option C) (o : Option A) → option_and_then g (option_and_then f o) ≡ option_and_then (λ x. option_and_then g (f x)) o
and_then_again f g None = refl
and_then_again f g (Some x) = refl
