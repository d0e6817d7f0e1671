-- What stands in lists at which number.
use Rattle.std.proofs.Common.{◌≡◌, ℕ, zero, suc, ◌<◌, true, is_none, is_some, length, List, [], ◌∷◌, Option, Some, None, slice_get, Contains, refl, ap, inl, inr, arith}
use Rattle.gq_names.proofs.RepeatLemmas.{contains_none, contains_later, contains_first, contains_cases}

module _ {A : Type 0} where
  pub found_none : (o : Option A) → is_none o ≡ true → o ≡ None
  found_none None h = refl
  found_none (Some x) h = absurd (cc)

  pub found_some : (o : Option A) → is_some o ≡ true → (x : A) × (o ≡ Some x)
  found_some None h = absurd (cc)
  found_some (Some x) h = (x, refl)

  -- what stands at a number
  pub at_number : (xs : List A) (n : ℕ) → n < length xs → (x : A) × (slice_get xs n ≡ Some x)
  at_number [] n inside = absurd (omega (arith, inside))
  at_number (x ∷ xs) zero inside = (x, refl)
  at_number (x ∷ xs) (suc n) inside = at_number xs n (omega (arith, inside))

  pub number_of : (xs : List A) (x : A) → Contains xs x → (n : ℕ) × (slice_get xs n ≡ Some x)
  number_of [] x c = absurd (contains_none x c)
  number_of (y ∷ ys) x c = elim (contains_cases y ys x c) [
    | inl is ↦ (0, ap Some is)
    | inr later ↦ (let r = number_of ys x later in (suc r.0, r.1))
  ]

  pub inside_of : (xs : List A) (n : ℕ) (x : A) → slice_get xs n ≡ Some x → n < length xs
  inside_of [] n x at = absurd (cc)
  inside_of (y ∷ ys) zero x at = omega arith
  inside_of (y ∷ ys) (suc n) x at = let r = inside_of ys n x at in omega (arith, r)

  pub contained : (xs : List A) (n : ℕ) (x : A) → slice_get xs n ≡ Some x → Contains xs x
  contained [] n x at = absurd (cc)
  contained (y ∷ ys) zero x at = contains_first y ys x (cc)
  contained (y ∷ ys) (suc n) x at = contains_later y ys x (contained ys n x at)
