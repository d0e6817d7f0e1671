-- Items with their places.
use Rattle.std.proofs.Common.{◌≡◌, ℕ, ◌+◌, ◌<◌, ◌≤◌, Bool, true, false, if◌then◌else◌, List, [], ◌∷◌, ◌++◌, inl, inr, ◌↔◌, Contains, length, map, drop, append-nil, refl, sym, ◌∙◌, ap, subst, arith, nat_cmp}
use Rattle.std.specs.Cmp.{nat_cmp_is}
use Rattle.std.specs.List.{enumerate_from, AllByRecursion, list_any}
use Rattle.std.specs.List.Sorted.{IsStrictlySortedBy}
use Rattle.std.specs.Str.{bytes_eq}
use Rattle.std.specs.declared.cmp.Ordering.TheVariants.{Less}
use Rattle.std.proofs.lemmas.List.{drop_all}
use Rattle.std.proofs.lemmas.List.FromFn.{length-enumerate_from, get_or-enumerate_from}
use Rattle.gq_names.specs.Repeats.{repeated, repeated_after, StandsAt, IsRepeatedAt, IsRepeated, IsRepeatedPlace}
use Rattle.gq_names.proofs.RepeatLemmas.{contains_none, contains_later, contains_first, contains_cases, repeated_is}

module _ {X Y : Type 0} (f : X → Y) where
  -- what stands in a list of images is the image of an item
  contains_image : (xs : List X) (y : Y) → Contains (map f xs) y → (x : X) × Contains xs x × (f x ≡ y)
  contains_image [] y found = absurd (contains_none y found)
  contains_image (x ∷ xs) y found = elim (contains_cases (f x) (map f xs) y found) [
    | inl is ↦ (x, contains_first x xs x refl, is)
    | inr later ↦ let rest = contains_image xs y later in (rest.0, contains_later x xs rest.0 rest.1, rest.2)
  ]

  image_contained : (xs : List X) (x : X) → Contains xs x → Contains (map f xs) (f x)
  image_contained [] x found = absurd (contains_none x found)
  image_contained (z ∷ xs) x found = elim (contains_cases z xs x found) [
    | inl is ↦ contains_first (f z) (map f xs) (f x) (ap f is)
    | inr later ↦ contains_later (f z) (map f xs) (f x) (image_contained xs x later)
  ]

module _ {A : Type 0} where
  enumerated_at : (xs : List A) (i : ℕ) (p : ℕ × A) → StandsAt (enumerate_from 0 xs) i p → StandsAt xs i p.1 × (p.0 ≡ i)
  enumerated_at xs i p stands =
      let inside : i < length xs = omega (arith, stands.0, length-enumerate_from 0 xs) in
      let same = sym (get_or-enumerate_from 0 xs i p inside) ∙ stands.1 in
      let number : p.0 ≡ i = omega (arith, ap (λ q. q.0) same) in
      ((inside, ap (λ q. q.1) same), number)

  at_enumerated : (xs : List A) (i : ℕ) (x : A) → StandsAt xs i x → StandsAt (enumerate_from 0 xs) i (i, x)
  at_enumerated xs i x stands =
      let inside : i < length (enumerate_from 0 xs) = omega (arith, stands.0, length-enumerate_from 0 xs) in
      let number : 0 + i ≡ i = omega arith in
      (inside, get_or-enumerate_from 0 xs i (i, x) stands.0 ∙ (λ d. (number d, stands.1 d)))

  module _ (text : A → List ℕ) where
    pub places_are : (xs : List A) (i : ℕ) → Contains (map (λ p. p.0) (repeated (λ p. text p.1) (enumerate_from 0 xs))) i ↔ IsRepeatedPlace text xs i
    places_are xs i = (to, from)
      where
        to : Contains (map (λ p. p.0) (repeated (λ p. text p.1) (enumerate_from 0 xs))) i → IsRepeatedPlace text xs i
        to found =
            let image = contains_image (λ p. p.0) (repeated (λ p. text p.1) (enumerate_from 0 xs)) i found in
            let again = (repeated_is (λ p. text p.1) (enumerate_from 0 xs) image.0).0 image.1 in
            let here = enumerated_at xs again.0 image.0 again.1.here in
            let there = enumerated_at xs again.1.earlier again.1.other again.1.stands_earlier in
            let place : again.0 ≡ i = sym here.1 ∙ image.2 in (
              image.0.1,
              subst (λ j. IsRepeatedAt text xs j image.0.1) place record { here = here.0; earlier = again.1.earlier; is_earlier = again.1.is_earlier; other = again.1.other.1; stands_earlier = there.0; same_text = again.1.same_text },
            )

        from : IsRepeatedPlace text xs i → Contains (map (λ p. p.0) (repeated (λ p. text p.1) (enumerate_from 0 xs))) i
        from (x, at) =
            let again : IsRepeated (λ p. text p.1) (enumerate_from 0 xs) (i, x) = (
              i,
              record { here = at_enumerated xs i x at.here; earlier = at.earlier; is_earlier = at.is_earlier; other = (at.earlier, at.other); stands_earlier = at_enumerated xs at.earlier at.other at.stands_earlier; same_text = at.same_text },
            ) in
            image_contained (λ p. p.0) (repeated (λ p. text p.1) (enumerate_from 0 xs)) (i, x) ((repeated_is (λ p. text p.1) (enumerate_from 0 xs) (i, x)).1 again)

-- the numbers are n or more
abbrev AreFrom : ℕ → List ℕ → Type 0
AreFrom n [] = Unit {0}
AreFrom n (k ∷ ks) = (n ≤ k) × AreFrom n ks

are_from_less : (n : ℕ) (ks : List ℕ) → AreFrom (n + 1) ks → AreFrom n ks
are_from_less n [] _ = tt
are_from_less n (k ∷ ks) h = (omega (arith, h.0), are_from_less n ks h.1)

all_above : (n : ℕ) (ks : List ℕ) → AreFrom (n + 1) ks → AllByRecursion (λ k. nat_cmp n k ≡ Less) ks
all_above n [] _ = tt
all_above n (k ∷ ks) h = (sym (nat_cmp_is n k Less (omega (arith, h.0))), all_above n ks h.1)

from_then_sorted : (n : ℕ) (ks : List ℕ) → AreFrom (n + 1) ks → IsStrictlySortedBy nat_cmp ks → IsStrictlySortedBy nat_cmp (n ∷ ks)
unfolding IsStrictlySortedBy
from_then_sorted n ks from sorted = (all_above n ks from, sorted)

none_sorted : IsStrictlySortedBy nat_cmp []
unfolding IsStrictlySortedBy
none_sorted = tt

-- the numbers ascend from n on
abbrev Ascends : ℕ → List ℕ → Type 0
Ascends n ks = AreFrom n ks × IsStrictlySortedBy nat_cmp ks

module _ {A : Type 0} (text : A → List ℕ) where
  one_more : (b : Bool) (n : ℕ) (x : A) (rest : List (ℕ × A)) → Ascends (n + 1) (map (λ p. p.0) rest) → Ascends n (map (λ p. p.0) ((if b then (n, x) ∷ [] else []) ++ rest))
  one_more true n x rest h = ((omega arith, are_from_less n (map (λ p. p.0) rest) h.0), from_then_sorted n (map (λ p. p.0) rest) h.0 h.1)
  one_more false n x rest h = (are_from_less n (map (λ p. p.0) rest) h.0, h.1)

  places_ascend_from : (before : List (List ℕ)) (n : ℕ) (xs : List A) → Ascends n (map (λ p. p.0) (repeated_after (λ p. text p.1) before (enumerate_from n xs)))
  places_ascend_from before n [] = (tt, none_sorted)
  places_ascend_from before n (x ∷ xs) = one_more (list_any (bytes_eq (text x)) before) n x (repeated_after (λ p. text p.1) (before ++ text x ∷ []) (enumerate_from (n + 1) xs)) (places_ascend_from (before ++ text x ∷ []) (n + 1) xs)

  pub places_ascend : (xs : List A) → IsStrictlySortedBy nat_cmp (map (λ p. p.0) (repeated (λ p. text p.1) (enumerate_from 0 xs)))
  places_ascend xs = (places_ascend_from [] 0 xs).1

  -- where no item is left, all places are found
  pub places_found : (found whole : List ℕ) (seen : List (List ℕ)) (xs : List A) (i : ℕ) → length xs ≤ i
      → found ++ map (λ p. p.0) (repeated_after (λ p. text p.1) seen (enumerate_from i (drop i xs))) ≡ whole → found ≡ whole
  places_found found whole seen xs i end is =
      sym (append-nil found) ∙ ap (λ rest. found ++ map (λ p. p.0) (repeated_after (λ p. text p.1) seen (enumerate_from i rest))) (sym (drop_all i xs end)) ∙ is
