-- What passes a test in a list of which a front passes, or all but one item does.
use Rattle.std.proofs.Common.{◌≡◌, ℕ, zero, suc, ◌+◌, ◌<◌, Bool, true, false, List, [], ◌∷◌, length, get_or, take, drop, Some, None, filter, find, not, refl, ◌∙◌, ap, arith}
use Rattle.std.specs.List.{AllWithin, remove, position, position_or_len}
use Rattle.std.proofs.lemmas.Bool.{cond-true, cond-false, both_ways, lt-ltb, le-ltb}

-- a test gives the same answer at each place from low up to high
abbrev pub Tests : {X : Type 0} → (X → Bool) → Bool → List X → ℕ → ℕ → Type 0
Tests p b xs low high = AllWithin (λ x. p x ≡ b) xs low high

Tests-tail : {X : Type 0} (p : X → Bool) (b : Bool) (x : X) (xs : List X) (low high : ℕ) → Tests p b (x ∷ xs) (suc low) (suc high) → Tests p b xs low high
Tests-tail p b x xs low high h k d from below = h (suc k) d (omega arith) (omega arith)

Tests-tail_all : {X : Type 0} (p : X → Bool) (b : Bool) (x : X) (xs : List X) (high : ℕ) → Tests p b (x ∷ xs) 0 (suc high) → Tests p b xs 0 high
Tests-tail_all p b x xs high h k d from below = h (suc k) d (omega arith) (omega arith)

-- every item passes, or none does
pub filter_none : {X : Type 0} (p : X → Bool) (xs : List X) → Tests p false xs 0 (length xs) → filter p xs ≡ []
filter_none p [] h = refl
filter_none p (x ∷ xs) h = cond-false (p x) _ _ (h 0 x (omega arith) (omega arith)) ∙ filter_none p xs (Tests-tail_all p false x xs _ h)

pub filter_all : {X : Type 0} (p : X → Bool) (xs : List X) → Tests p true xs 0 (length xs) → filter p xs ≡ xs
filter_all p [] h = refl
filter_all p (x ∷ xs) h = cond-true (p x) _ _ (h 0 x (omega arith) (omega arith)) ∙ ap (λ (ys : List _). x ∷ ys) (filter_all p xs (Tests-tail_all p true x xs _ h))

-- what stands before place i passes, and the rest does not
pub filter_front : {X : Type 0} (p : X → Bool) (xs : List X) (i : ℕ) → Tests p true xs 0 i → Tests p false xs i (length xs) → filter p xs ≡ take i xs
filter_front p xs zero h g = filter_none p xs g
filter_front p [] (suc i) h g = refl
filter_front p (x ∷ xs) (suc i) h g =
    cond-true (p x) _ _ (h 0 x (omega arith) (omega arith)) ∙ ap (λ (ys : List _). x ∷ ys) (filter_front p xs i (Tests-tail_all p true x xs i h) (Tests-tail p false x xs i _ g))

-- what stands before place i does not pass, and the rest does
pub filter_back : {X : Type 0} (p : X → Bool) (xs : List X) (i : ℕ) → Tests p false xs 0 i → Tests p true xs i (length xs) → filter p xs ≡ drop i xs
filter_back p xs zero h g = filter_all p xs g
filter_back p [] (suc i) h g = refl
filter_back p (x ∷ xs) (suc i) h g =
    cond-false (p x) _ _ (h 0 x (omega arith) (omega arith)) ∙ filter_back p xs i (Tests-tail_all p false x xs i h) (Tests-tail p true x xs i _ g)

-- all pass but the one at place i
pub filter_but_one : {X : Type 0} (p : X → Bool) (xs : List X) (i : ℕ) → Tests p true xs 0 i → Tests p false xs i (suc i) → Tests p true xs (suc i) (length xs) → i < length xs → filter p xs ≡ remove xs i
filter_but_one p [] i h at g below = absurd (omega arith)
filter_but_one p (x ∷ xs) zero h at g below = cond-false (p x) _ _ (at 0 x (omega arith) (omega arith)) ∙ filter_all p xs (Tests-tail p true x xs zero _ g)
filter_but_one p (x ∷ xs) (suc i) h at g below =
    cond-true (p x) _ _ (h 0 x (omega arith) (omega arith))
    ∙ ap (λ (ys : List _). x ∷ ys) (filter_but_one p xs i (Tests-tail_all p true x xs i h) (Tests-tail p false x xs i _ at) (Tests-tail p true x xs (suc i) _ g) (omega arith))

-- the first to pass is at place i
pub find_at : {X : Type 0} (p : X → Bool) (xs : List X) (i : ℕ) (d : X) → Tests p false xs 0 i → Tests p true xs i (suc i) → i < length xs → find p xs ≡ Some (get_or xs i d)
find_at p [] i d h at below = absurd (omega arith)
find_at p (x ∷ xs) zero d h at below = cond-true (p x) _ _ (at 0 x (omega arith) (omega arith))
find_at p (x ∷ xs) (suc i) d h at below =
    cond-false (p x) _ _ (h 0 x (omega arith) (omega arith)) ∙ find_at p xs i d (Tests-tail_all p false x xs i h) (Tests-tail p true x xs i _ at) (omega arith)

-- and that is its place
place_of_first : {X : Type 0} (p : X → Bool) (xs : List X) (i : ℕ) → Tests p false xs 0 i → Tests p true xs i (suc i) → i < length xs → position_or_len p xs ≡ i
place_of_first p [] i h at below = absurd (omega arith)
place_of_first p (x ∷ xs) zero h at below = cond-false (not (p x)) (1 + position_or_len p xs) 0 (ap not (at 0 x (omega arith) (omega arith)))
place_of_first p (x ∷ xs) (suc i) h at below =
    let rest : position_or_len p xs ≡ i = place_of_first p xs i (Tests-tail_all p false x xs i h) (Tests-tail p true x xs i _ at) (omega arith) in
    let next : 1 + position_or_len p xs ≡ suc i = omega (arith, rest) in
    cond-true (not (p x)) (1 + position_or_len p xs) 0 (ap not (h 0 x (omega arith) (omega arith))) ∙ next

pub position_at : {X : Type 0} (p : X → Bool) (xs : List X) (i : ℕ) → Tests p false xs 0 i → Tests p true xs i (suc i) → i < length xs → position p xs ≡ Some i
position_at p xs i h at below = rw (place_of_first p xs i h at below, lt-ltb i (length xs) below)

past_all : {X : Type 0} (p : X → Bool) (xs : List X) → Tests p false xs 0 (length xs) → position_or_len p xs ≡ length xs
past_all p [] h = refl
past_all p (x ∷ xs) h =
    let rest : position_or_len p xs ≡ length xs = past_all p xs (Tests-tail_all p false x xs _ h) in
    let next : 1 + position_or_len p xs ≡ suc (length xs) = omega (arith, rest) in
    cond-true (not (p x)) (1 + position_or_len p xs) 0 (ap not (h 0 x (omega arith) (omega arith))) ∙ next

pub position_none : {X : Type 0} (p : X → Bool) (xs : List X) → Tests p false xs 0 (length xs) → position p xs ≡ None
position_none p xs h = rw (past_all p xs h, le-ltb (length xs) (length xs) (omega arith))

pub find_none : {X : Type 0} (p : X → Bool) (xs : List X) → Tests p false xs 0 (length xs) → find p xs ≡ None
find_none p [] h = refl
find_none p (x ∷ xs) h = cond-false (p x) _ _ (h 0 x (omega arith) (omega arith)) ∙ find_none p xs (Tests-tail_all p false x xs _ h)

-- a filter that keeps all that a test finds changes nothing for it
pub find-filter_keeps : {X : Type 0} (p q : X → Bool) → ((x : X) → p x ≡ true → q x ≡ true) → (xs : List X) → find p (filter q xs) ≡ find p xs
find-filter_keeps p q h [] = refl
find-filter_keeps {X} p q h (x ∷ xs) = by (q x) (p x) refl refl (find-filter_keeps p q h xs)
  where
    by : (b c : Bool) → q x ≡ b → p x ≡ c → find p (filter q xs) ≡ find p xs → find p (filter q (x ∷ xs)) ≡ find p (x ∷ xs)
    by true true e g rest = rw (e, g)
    by true false e g rest = rw (e, g) rest
    by false true e g rest = absurd (both_ways (q x) e (h x g))
    by false false e g rest = rw (e, g) rest

-- a filter that drops all that a test finds leaves it nothing
pub find-filter_loses : {X : Type 0} (p q : X → Bool) → ((x : X) → p x ≡ true → q x ≡ false) → (xs : List X) → find p (filter q xs) ≡ None
find-filter_loses p q h [] = refl
find-filter_loses {X} p q h (x ∷ xs) = by (q x) (p x) refl refl (find-filter_loses p q h xs)
  where
    by : (b c : Bool) → q x ≡ b → p x ≡ c → find p (filter q xs) ≡ None → find p (filter q (x ∷ xs)) ≡ None
    by true true e g rest = absurd (both_ways (q x) (h x g) e)
    by true false e g rest = rw (e, g) rest
    by false c e g rest = rw e rest
