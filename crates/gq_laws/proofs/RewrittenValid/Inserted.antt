-- One item more in a list.
use Rattle.std.proofs.Common.{◌≡◌, ◌≢◌, ◌⊎◌, ⊎_elim, inl, inr, ℕ, zero, suc, ◌+◌, ◌<◌, true, false, List, [], ◌∷◌, ◌++◌, Some, flat_map, slice_get, nat_eq, Contains, refl, sym, ap, ◌∙◌, subst, arith}
use Rattle.std.specs.List.{enumerate_from}
use Rattle.std.proofs.lemmas.Bool.Decides.{nat_tests}
use Rattle.std.proofs.lemmas.List.{append-nil, append_assoc}
use Rattle.gq_types.proofs.Gathered.{first, later, cases_cons}
use Rattle.gq_names.specs.Repeats.{IsRepeated, StandsAt}

pub data Inserted {A : Type 0} (n : A) : List A → List A → Type 0 where
  before_all : {xs : List A} → Inserted n xs (n ∷ xs)
  behind_one : {x : A} {xs ys : List A} → Inserted n xs ys → Inserted n (x ∷ xs) (x ∷ ys)

module _ {A : Type 0} (n : A) where
  pub inserted_there : {xs ys : List A} → Inserted n xs ys → Contains ys n
  inserted_there (before_all {xs}) = first n n xs refl
  inserted_there (behind_one {x} {ys} i) = later x n ys (inserted_there i)

  pub inserted_too : {xs ys : List A} → Inserted n xs ys → (z : A) → Contains xs z → Contains ys z
  inserted_too (before_all {xs}) z c = later n z xs c
  inserted_too (behind_one {x} {xs} {ys} i) z c = ⊎_elim (λ e. first x z ys e) (λ d. later x z ys (inserted_too i z d)) (cases_cons x z xs c)

  pub inserted_from : {xs ys : List A} → Inserted n xs ys → (z : A) → Contains ys z → (n ≡ z) ⊎ Contains xs z
  inserted_from (before_all {xs}) z c = cases_cons n z xs c
  inserted_from (behind_one {x} {xs} {ys} i) z c = ⊎_elim (λ e. inr (first x z xs e)) (λ d. ⊎_elim (λ e. inl e) (λ k. inr (later x z xs k)) (inserted_from i z d)) (cases_cons x z ys c)

  pub inserted_behind : (zs : List A) {xs ys : List A} → Inserted n xs ys → Inserted n (zs ++ xs) (zs ++ ys)
  inserted_behind [] i = i
  inserted_behind (z ∷ zs) i = behind_one (inserted_behind zs i)

-- an item of a list that stands where it is asked, with an earlier one of its text
module _ {A : Type 0} (text : A → List ℕ) where
  pub repeated_tail : (x : A) (xs : List A) (z : A) → IsRepeated text xs z → IsRepeated text (x ∷ xs) z
  repeated_tail x xs z r = (
    suc r.0,
    record {
      here = (omega (arith, r.1.here.0), r.1.here.1);
      earlier = suc r.1.earlier;
      is_earlier = omega (arith, r.1.is_earlier);
      other = r.1.other;
      stands_earlier = (omega (arith, r.1.stands_earlier.0), r.1.stands_earlier.1);
      same_text = r.1.same_text;
    },
  )

  pub repeated_head : (x : A) (xs : List A) (z : A) → text x ≡ text z → Contains xs z → IsRepeated text (x ∷ xs) z
  repeated_head x xs z same c = (suc c.0, record { here = (omega (arith, c.1), c.2); earlier = 0; is_earlier = omega arith; other = x; stands_earlier = (omega arith, refl); same_text = same })

  pub repeated_cases : (x : A) (xs : List A) (z : A) → IsRepeated text (x ∷ xs) z → ((text x ≡ text z) × Contains xs z) ⊎ IsRepeated text xs z
  repeated_cases x xs z (i, r) = by i r.here r.earlier r.is_earlier r.other r.stands_earlier r.same_text
    where
      by : (i : ℕ) → StandsAt (x ∷ xs) i z → (k : ℕ) → k < i → (o : A) → StandsAt (x ∷ xs) k o → text o ≡ text z → ((text x ≡ text z) × Contains xs z) ⊎ IsRepeated text xs z
      by zero here k l o there same = absurd (omega (arith, l))
      by (suc i) here zero l o there same = inl (ap text there.1 ∙ same, (i, omega (arith, here.0), here.1))
      by (suc i) here (suc k) l o there same = inr (
        i,
        record {
          here = (omega (arith, here.0), here.1);
          earlier = k;
          is_earlier = omega (arith, l);
          other = o;
          stands_earlier = (omega (arith, there.0), there.1);
          same_text = same;
        },
      )

  -- One more, whose text is fresh, repeats none.
  pub none_repeated : (n : A) {xs ys : List A} → Inserted n xs ys → ((z : A) → Contains xs z → text z ≢ text n) → (z : A) → IsRepeated text ys z → IsRepeated text xs z
  none_repeated n (before_all {xs}) fresh z r = ⊎_elim (λ c. absurd (fresh z c.1 (sym c.0))) (λ k. k) (repeated_cases n xs z r)
  none_repeated n (behind_one {x} {xs} {ys} i) fresh z r =
      ⊎_elim
      (λ c. ⊎_elim (λ e. absurd (fresh x (first x x xs refl) (c.0 ∙ ap text (sym e)))) (λ k. repeated_head x xs z c.0 k) (inserted_from n i z c.1))
      (λ k. repeated_tail x xs z (none_repeated n i (λ w c. fresh w (later x w xs c)) z k))
      (repeated_cases x ys z r)

-- What is gathered of numbered items, with one more at the end of what one number gives.
module _ {X A : Type 0} (file : ℕ) (f : ℕ × X → List A) (new : ℕ → List A) (n : A) (at_it : (k : ℕ) → nat_eq file k ≡ true → new k ≡ n ∷ [])
    (elsewhere : (k : ℕ) → nat_eq file k ≡ false → new k ≡ []) where
  abbrev each : ℕ × X → List A
  each r = f r ++ new r.0

  none_later : (k : ℕ) → file < k → (rs : List X) → flat_map each (enumerate_from k rs) ≡ flat_map f (enumerate_from k rs)
  none_later k l [] = refl
  none_later k l (r ∷ rs) =
      let other : nat_eq file k ≡ false = grind (arith, nat_tests) in
      ap (λ z. (f (k, r) ++ z) ++ flat_map each (enumerate_from (k + 1) rs)) (elsewhere k other)
      ∙ ap (λ z. z ++ flat_map each (enumerate_from (k + 1) rs)) (append-nil (f (k, r)))
      ∙ ap (λ z. f (k, r) ++ z) (none_later (k + 1) (omega (arith, l)) rs)

  pub inserted_at : (k i : ℕ) → file ≡ k + i → (rs : List X) → (x : X) → slice_get rs i ≡ Some x → Inserted n (flat_map f (enumerate_from k rs)) (flat_map each (enumerate_from k rs))
  inserted_at k i e [] x there = absurd (cc)
  inserted_at k zero e (r ∷ rs) x there =
      let here : nat_eq file k ≡ true = grind (arith, nat_tests, e) in
      subst (λ z. Inserted n (f (k, r) ++ flat_map f (enumerate_from (k + 1) rs)) z)
      (append_assoc_one (f (k, r)) (flat_map f (enumerate_from (k + 1) rs))
      ∙ ap (λ z. (f (k, r) ++ z) ++ flat_map f (enumerate_from (k + 1) rs)) (sym (at_it k here))
      ∙ ap (λ z. (f (k, r) ++ new k) ++ z) (sym (none_later (k + 1) (omega (arith, e)) rs)))
      (inserted_behind n (f (k, r)) before_all)
    where
      append_assoc_one : (xs ys : List A) → xs ++ (n ∷ ys) ≡ (xs ++ (n ∷ [])) ++ ys
      append_assoc_one xs ys = sym (append_assoc xs (n ∷ []) ys)
  inserted_at k (suc i) e (r ∷ rs) x there =
      let other : nat_eq file k ≡ false = beside k i e in
      subst (λ z. Inserted n (f (k, r) ++ flat_map f (enumerate_from (k + 1) rs)) (z ++ flat_map each (enumerate_from (k + 1) rs)))
      (sym (ap (λ z. f (k, r) ++ z) (elsewhere k other) ∙ append-nil (f (k, r))))
      (inserted_behind n (f (k, r)) (inserted_at (k + 1) i (omega (arith, e)) rs x there))
    where
      beside : (k i : ℕ) → file ≡ k + suc i → nat_eq file k ≡ false
      beside k i e = grind (arith, nat_tests, e)
