-- What stands in lists that were gathered, and what tests of lists tell.
use Rattle.std.proofs.Common.{◌≡◌, zero, suc, Bool, true, false, List, [], ◌∷◌, refl, sym, ap, subst, arith, Contains, flat_map, map, ◌⊎◌, ⊎_elim, inl, inr, Option, Some, None}
use Rattle.std.specs.Prelude.{◌||◌, ◌&&◌, not, filter, find, if◌then◌else◌}
use Rattle.std.specs.List.{list_any}
use Rattle.std.specs.Option.{option_map, option_map_or}
use Rattle.std.proofs.lemmas.List.Elements.{Contains-append_left, Contains-append_right, Contains-append_cases}
use Rattle.std.proofs.lemmas.List.Folds.{Any-from_list_any, list_any-from_Any}

-- tests
pub or_cases : (a b : Bool) → (a || b) ≡ true → (a ≡ true) ⊎ (b ≡ true)
or_cases true b h = inl refl
or_cases false b h = inr h

pub or_left : (a b : Bool) → a ≡ true → (a || b) ≡ true
or_left true b h = refl
or_left false b h = absurd (cc)

pub or_right : (a b : Bool) → b ≡ true → (a || b) ≡ true
or_right true b h = refl
or_right false b h = h

pub and_parts : (a b : Bool) → (a && b) ≡ true → (a ≡ true) × (b ≡ true)
and_parts true b h = (refl, h)
and_parts false b h = absurd (cc)

pub and_both : (a b : Bool) → a ≡ true → b ≡ true → (a && b) ≡ true
and_both true b h k = k
and_both false b h k = absurd (cc)

pub not_true : (b : Bool) → not b ≡ true → b ≡ false
not_true true h = absurd (cc)
not_true false h = refl

pub not_false : (b : Bool) → b ≡ false → not b ≡ true
not_false true h = absurd (cc)
not_false false h = refl

-- elements
pub nothing_in : {X : Type 0} (z : X) {A : Type 0} → Contains [] z → A
nothing_in z c = absurd (omega (arith, c.1))

pub first : {X : Type 0} (x z : X) (xs : List X) → x ≡ z → Contains (x ∷ xs) z
first x z xs e = (0, omega arith, e)

pub later : {X : Type 0} (x z : X) (xs : List X) → Contains xs z → Contains (x ∷ xs) z
later x z xs c = (suc c.0, omega (arith, c.1), c.2)

pub cases_cons : {X : Type 0} (x z : X) (xs : List X) → Contains (x ∷ xs) z → (x ≡ z) ⊎ Contains xs z
cases_cons x z xs (zero, l, e) = inl e
cases_cons x z xs (suc k, l, e) = inr (k, omega (arith, l), e)

pub only : {X : Type 0} (x z : X) → Contains (x ∷ []) z → z ≡ x
only x z c = ⊎_elim (λ e. sym e) (λ d. nothing_in z d) (cases_cons x z [] c)

pub from_flat : {X A : Type 0} (f : X → List A) (xs : List X) (y : A) → Contains (flat_map f xs) y → (x : X) × Contains xs x × Contains (f x) y
from_flat f [] y c = nothing_in y c
from_flat f (x ∷ xs) y c = ⊎_elim
    (λ a. (x, first x x xs refl, a))
    (λ b. let r = from_flat f xs y b in (r.0, later x r.0 xs r.1, r.2))
    (Contains-append_cases (f x) (flat_map f xs) y c)

pub to_flat : {X A : Type 0} (f : X → List A) (xs : List X) (x : X) (y : A) → Contains xs x → Contains (f x) y → Contains (flat_map f xs) y
to_flat f [] x y c d = nothing_in x c
to_flat f (w ∷ xs) x y c d = ⊎_elim
    (λ e. Contains-append_left (f w) (flat_map f xs) y (subst (λ v. Contains (f v) y) (sym e) d))
    (λ b. Contains-append_right (f w) (flat_map f xs) y (to_flat f xs x y b d))
    (cases_cons w x xs c)

pub from_map : {X A : Type 0} (f : X → A) (xs : List X) (y : A) → Contains (map f xs) y → (x : X) × Contains xs x × (f x ≡ y)
from_map f [] y c = nothing_in y c
from_map f (x ∷ xs) y c = ⊎_elim
    (λ e. (x, first x x xs refl, e))
    (λ b. let r = from_map f xs y b in (r.0, later x r.0 xs r.1, r.2))
    (cases_cons (f x) y (map f xs) c)

pub to_map : {X A : Type 0} (f : X → A) (xs : List X) (x : X) → Contains xs x → Contains (map f xs) (f x)
to_map f [] x c = nothing_in x c
to_map f (w ∷ xs) x c = ⊎_elim
    (λ e. first (f w) (f x) (map f xs) (ap f e))
    (λ b. later (f w) (f x) (map f xs) (to_map f xs x b))
    (cases_cons w x xs c)

module _ {X : Type 0} (p : X → Bool) (x : X) (xs : List X) (y : X) where
  from_kept : (Contains (filter p xs) y → Contains xs y × (p y ≡ true)) → (t : Bool) → p x ≡ t → Contains (if t then x ∷ filter p xs else filter p xs) y → Contains (x ∷ xs) y × (p y ≡ true)
  from_kept rest true e d = ⊎_elim
      (λ same. (first x y xs same, subst (λ z. p z ≡ true) same e))
      (λ b. let r = rest b in (later x y xs r.0, r.1))
      (cases_cons x y (filter p xs) d)
  from_kept rest false e d = let r = rest d in (later x y xs r.0, r.1)

  to_kept : (Contains xs y → Contains (filter p xs) y) → p y ≡ true → Contains (x ∷ xs) y → (t : Bool) → p x ≡ t → Contains (if t then x ∷ filter p xs else filter p xs) y
  to_kept rest h c true e = ⊎_elim
      (λ same. first x y (filter p xs) same)
      (λ b. later x y (filter p xs) (rest b))
      (cases_cons x y xs c)
  to_kept rest h c false e = ⊎_elim
      (λ same. let f : p y ≡ false = subst (λ z. p z ≡ false) same e in absurd (cc))
      (λ b. rest b)
      (cases_cons x y xs c)

  found_in : (find p xs ≡ Some y → Contains xs y × (p y ≡ true)) → (t : Bool) → p x ≡ t → (if t then Some x else find p xs) ≡ Some y → Contains (x ∷ xs) y × (p y ≡ true)
  found_in rest true e d = let same : x ≡ y = cc in (first x y xs same, subst (λ z. p z ≡ true) same e)
  found_in rest false e d = let r = rest d in (later x y xs r.0, r.1)

pub from_filter : {X : Type 0} (p : X → Bool) (xs : List X) (y : X) → Contains (filter p xs) y → Contains xs y × (p y ≡ true)
from_filter p [] y c = nothing_in y c
from_filter p (x ∷ xs) y c = from_kept p x xs y (λ d. from_filter p xs y d) (p x) refl c

pub to_filter : {X : Type 0} (p : X → Bool) (xs : List X) (y : X) → Contains xs y → p y ≡ true → Contains (filter p xs) y
to_filter p [] y c h = nothing_in y c
to_filter p (x ∷ xs) y c h = to_kept p x xs y (λ d. to_filter p xs y d h) h c (p x) refl

pub from_any : {X : Type 0} (p : X → Bool) (xs : List X) → list_any p xs ≡ true → (x : X) × Contains xs x × (p x ≡ true)
from_any p xs h = let a = Any-from_list_any p xs h in (a.1, (a.0, a.2, a.3), a.4)

pub to_any : {X : Type 0} (p : X → Bool) (xs : List X) (x : X) → Contains xs x → p x ≡ true → list_any p xs ≡ true
to_any p xs x c h = list_any-from_Any p xs (c.0, x, c.1, c.2, h)

-- what is found
pub found : {X : Type 0} (p : X → Bool) (xs : List X) (y : X) → find p xs ≡ Some y → Contains xs y × (p y ≡ true)
found p [] y h = absurd (cc)
found p (x ∷ xs) y h = found_in p x xs y (λ d. found p xs y d) (p x) refl h

-- what an option was mapped from
pub mapped : {X Y : Type 0} (f : X → Y) (o : Option X) (y : Y) → option_map f o ≡ Some y → (x : X) × (o ≡ Some x) × (f x ≡ y)
mapped f None y h = absurd (cc)
mapped f (Some x) y h = (x, refl, cc)

pub tested : {X : Type 0} (p : X → Bool) (o : Option X) → option_map_or p o false ≡ true → (x : X) × (o ≡ Some x) × (p x ≡ true)
tested p None h = absurd (cc)
tested p (Some x) h = (x, refl, h)

-- what stands in a list that was mapped, with the equation the other way round
pub from_map_as : {X A : Type 0} (f : X → A) (xs : List X) (y : A) → Contains (map f xs) y → (x : X) × Contains xs x × (y ≡ f x)
from_map_as f xs y c = let r = from_map f xs y c in (r.0, r.1, sym r.2)

pub to_map_as : {X A : Type 0} (f : X → A) (xs : List X) (x : X) (y : A) → Contains xs x → y ≡ f x → Contains (map f xs) y
to_map_as f xs x y c e = subst (λ z. Contains (map f xs) z) (sym e) (to_map f xs x c)

-- what is told where a test holds, and where it does not
pub from_if : {X : Type 0} (b : Bool) (x z : X) → Contains (if b then x ∷ [] else []) z → (b ≡ true) × (z ≡ x)
from_if true x z c = (refl, only x z c)
from_if false x z c = nothing_in z c

pub to_if : {X : Type 0} (b : Bool) (x z : X) → b ≡ true → z ≡ x → Contains (if b then x ∷ [] else []) z
to_if true x z h e = first x z [] (sym e)
to_if false x z h e = absurd (cc)

pub from_not : {X : Type 0} (b : Bool) (x z : X) → Contains (if b then [] else x ∷ []) z → (b ≡ false) × (z ≡ x)
from_not true x z c = nothing_in z c
from_not false x z c = (refl, only x z c)

pub to_not : {X : Type 0} (b : Bool) (x z : X) → b ≡ false → z ≡ x → Contains (if b then [] else x ∷ []) z
to_not true x z h e = absurd (cc)
to_not false x z h e = first x z [] (sym e)
