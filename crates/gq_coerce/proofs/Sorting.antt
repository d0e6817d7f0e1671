-- A stable sort of a list is what becomes of its elements when one after the other is put among those before it, behind all that are not greater.
use Rattle.std.proofs.Common.{◌≡◌, ℕ, ◌<◌, ◌≤◌, Bool, true, false, true≢false, cond, not, ◌&&◌, List, [], ◌∷◌, ◌++◌, length, get_or, drop, suc, refl, ap, sym, ◌∙◌, arith, append-nil, append_assoc}
use Rattle.std.specs.Bool.{⊤}
use Rattle.std.specs.Cmp.{IsStrictWeakOrder}
use Rattle.std.specs.List.{filter}
use Rattle.std.specs.List.Sorted.{IsSortedBy, IsStableBy, ties}
use Rattle.std.proofs.lemmas.List.Elements.{filter-append}
use Rattle.std.proofs.lemmas.List.Sorted.{sorted_far}

module _ {X : Type 0} (lt : X → X → Bool) where
  abbrev pub put : X → List X → List X
  put x [] = x ∷ []
  put x (y ∷ ys) = cond (lt x y) (x ∷ y ∷ ys) (y ∷ put x ys)

  abbrev pub put_all : List X → List X → List X
  put_all done [] = done
  put_all done (x ∷ xs) = put_all (put x done) xs

  -- none of these is less than x; none is less than one before it
  abbrev IsLeast : X → List X → Type 0
  IsLeast x [] = ⊤
  IsLeast x (y ∷ ys) = (lt y x ≡ false) × IsLeast x ys

  abbrev IsUp : List X → Type 0
  IsUp [] = ⊤
  IsUp (x ∷ xs) = IsLeast x xs × IsUp xs

  least_of : (x : X) (xs : List X) → ((k : ℕ) → k < length xs → lt (get_or xs k x) x ≡ false) → IsLeast x xs
  least_of x [] h = tt
  least_of x (y ∷ ys) h = (h 0 (omega arith), least_of x ys (λ k p. h (suc k) (omega arith)))

  up_of : (xs : List X) → ((i j : ℕ) (d : X) → i ≤ j → j < length xs → lt (get_or xs j d) (get_or xs i d) ≡ false) → IsUp xs
  up_of [] h = tt
  up_of (x ∷ xs) h = (least_of x xs (λ k p. h 0 (suc k) x (omega arith) (omega arith)), up_of xs (λ i j d p q. h (suc i) (suc j) d (omega arith) (omega arith)))

  module _ (o : IsStrictWeakOrder lt) where
    -- an element that was put leaves the others in order
    least_put_if : (x y z : X) (zs : List X) (b : Bool) → lt y x ≡ false → lt z x ≡ false → IsLeast x zs → IsLeast x (put y zs) → IsLeast x (cond b (y ∷ z ∷ zs) (z ∷ put y zs))
    least_put_if x y z zs true p q l m = (p, (q, l))
    least_put_if x y z zs false p q l m = (q, m)

    least_put : (x y : X) (zs : List X) → lt y x ≡ false → IsLeast x zs → IsLeast x (put y zs)
    least_put x y [] p l = (p, tt)
    least_put x y (z ∷ zs) p l = least_put_if x y z zs (lt y z) p l.0 l.1 (least_put x y zs p l.1)

    least_below : (x y : X) (zs : List X) → lt y x ≡ false → IsLeast y zs → IsLeast x zs
    least_below x y [] p l = tt
    least_below x y (z ∷ zs) p l = (o.chain z y x l.0 p, least_below x y zs p l.1)

    up_put_if : (x y : X) (ys : List X) (b : Bool) → lt x y ≡ b → IsUp (y ∷ ys) → IsUp (put x ys) → IsUp (cond b (x ∷ y ∷ ys) (y ∷ put x ys))
    up_put_if x y ys true is up rest = let p = o.one_way x y is in ((p, least_below x y ys p up.0), up)
    up_put_if x y ys false is up rest = (least_put y x ys is up.0, rest)

    up_put : (x : X) (ys : List X) → IsUp ys → IsUp (put x ys)
    up_put x [] up = (tt, tt)
    up_put x (y ∷ ys) up = up_put_if x y ys (lt x y) refl up (up_put x ys up.1)

    up_all : (done xs : List X) → IsUp done → IsUp (put_all done xs)
    up_all done [] up = up
    up_all done (x ∷ xs) up = up_all (put x done) xs (up_put x done up)

    -- what ties with an element that is less than y ties with nothing that is not less than y
    no_less : (b c : Bool) → not b && not c ≡ true → (b ≡ false) × (c ≡ false)
    no_less true c h = absurd (true≢false (sym h))
    no_less false true h = absurd (true≢false (sym h))
    no_less false false h = (refl, refl)

    not_both : (b : Bool) → (b ≡ true → ⊥) → b ≡ false
    not_both true h = absurd (h refl)
    not_both false h = refl

    no_tie : (x w y z : X) → ties lt x w ≡ true → lt w y ≡ true → lt z y ≡ false → ties lt x z ≡ false
    no_tie x w y z t p q =
        not_both (ties lt x z)
        (λ u. true≢false (sym p ∙ o.chain w z y (o.chain w x z (no_less (lt x w) (lt w x) t).1 (no_less (lt x z) (lt z x) u).0) q))

    no_ties : (x w y : X) (zs : List X) → ties lt x w ≡ true → lt w y ≡ true → IsLeast y zs → filter (ties lt x) zs ≡ []
    no_ties x w y [] t p l = refl
    no_ties x w y (z ∷ zs) t p l = ap (λ b. cond b (z ∷ filter (ties lt x) zs) (filter (ties lt x) zs)) (no_tie x w y z t p l.0) ∙ no_ties x w y zs t p l.1

    itself_not : (x : X) → lt x x ≡ false
    itself_not x = not_both (lt x x) (λ p. true≢false (sym p ∙ o.one_way x x p))

    itself : (x : X) → ties lt x x ≡ true
    itself x = ap (λ b. not b && not b) (itself_not x)

    -- an element that was put stands behind all that tie with it
    cond_before : (b : Bool) (z : X) (xs ys : List X) → cond b (z ∷ (xs ++ ys)) (xs ++ ys) ≡ cond b (z ∷ xs) xs ++ ys
    cond_before true z xs ys = refl
    cond_before false z xs ys = refl

    module _ (x : X) where
      kept_first : (y z : X) (zs : List X) (t : Bool) → ties lt x y ≡ t → lt y z ≡ true → IsUp (z ∷ zs) → cond t (y ∷ filter (ties lt x) (z ∷ zs)) (filter (ties lt x) (z ∷ zs)) ≡ filter (ties lt x) (z ∷ zs) ++ cond t (y ∷ []) []
      kept_first y z zs true t p up = let none = no_ties x y z (z ∷ zs) t p (itself_not z, up.0) in ap (λ l. y ∷ l) none ∙ ap (λ l. l ++ y ∷ []) (sym none)
      kept_first y z zs false t p up = sym (append-nil (filter (ties lt x) (z ∷ zs)))

      kept_if : (y z : X) (zs : List X) (b : Bool) → lt y z ≡ b → IsUp (z ∷ zs) → filter (ties lt x) (put y zs) ≡ filter (ties lt x) zs ++ filter (ties lt x) (y ∷ [])
          → filter (ties lt x) (cond b (y ∷ z ∷ zs) (z ∷ put y zs)) ≡ filter (ties lt x) (z ∷ zs) ++ filter (ties lt x) (y ∷ [])
      kept_if y z zs true is up rest = kept_first y z zs (ties lt x y) refl is up
      kept_if y z zs false is up rest = ap (λ l. cond (ties lt x z) (z ∷ l) l) rest ∙ cond_before (ties lt x z) z (filter (ties lt x) zs) (filter (ties lt x) (y ∷ []))

      kept_put : (y : X) (zs : List X) → IsUp zs → filter (ties lt x) (put y zs) ≡ filter (ties lt x) zs ++ filter (ties lt x) (y ∷ [])
      kept_put y [] up = refl
      kept_put y (z ∷ zs) up = kept_if y z zs (lt y z) refl up (kept_put y zs up.1)

      kept_all : (done ys : List X) → IsUp done → filter (ties lt x) (put_all done ys) ≡ filter (ties lt x) done ++ filter (ties lt x) ys
      kept_all done [] up = sym (append-nil (filter (ties lt x) done))
      kept_all done (y ∷ ys) up =
          kept_all (put y done) ys (up_put y done up) ∙ ap (λ l. l ++ filter (ties lt x) ys) (kept_put y done up)
          ∙ append_assoc (filter (ties lt x) done) (filter (ties lt x) (y ∷ [])) (filter (ties lt x) ys) ∙ ap (λ l. filter (ties lt x) done ++ l) (sym (filter-append (ties lt x) (y ∷ []) ys))

    -- two lists in order that have what ties in the same order are the same
    head_kept : (x y : X) (ys : List X) → ties lt x y ≡ true → filter (ties lt x) (y ∷ ys) ≡ y ∷ filter (ties lt x) ys
    head_kept x y ys t = ap (λ b. cond b (y ∷ filter (ties lt x) ys) (filter (ties lt x) ys)) t

    nothing_not : (x : X) (xs : List X) → [] ≡ x ∷ xs → ⊥
    nothing_not x xs e = let n = ap length e in omega (arith, n)

    first_not_above : (x y : X) (xs ys : List X) → IsLeast y ys → filter (ties lt x) (x ∷ xs) ≡ filter (ties lt x) (y ∷ ys) → lt x y ≡ false
    first_not_above x y xs ys l h = not_both (lt x y) (λ p. nothing_not x (filter (ties lt x) xs) (sym (no_ties x x y (y ∷ ys) (itself x) p (itself_not y, l)) ∙ sym h ∙ head_kept x x xs (itself x)))

    tails_if : (b : Bool) (x : X) (xs ys : List X) → cond b (x ∷ xs) xs ≡ cond b (x ∷ ys) ys → xs ≡ ys
    tails_if true x xs ys e = ap (drop 1) e
    tails_if false x xs ys e = e

    pub same_in_order : (xs ys : List X) → IsUp xs → IsUp ys → ((x : X) → filter (ties lt x) xs ≡ filter (ties lt x) ys) → xs ≡ ys
    same_in_order [] [] up vp h = refl
    same_in_order [] (y ∷ ys) up vp h = absurd (nothing_not y (filter (ties lt y) ys) (h y ∙ head_kept y y ys (itself y)))
    same_in_order (x ∷ xs) [] up vp h = absurd (nothing_not x (filter (ties lt x) xs) (sym (h x) ∙ head_kept x x xs (itself x)))
    same_in_order (x ∷ xs) (y ∷ ys) up vp h =
        let xy = first_not_above x y xs ys vp.0 (h x) in
        let yx = first_not_above y x ys xs up.0 (sym (h y)) in
        let tie : ties lt x y ≡ true = ap (λ b. not b && not (lt y x)) xy ∙ ap not yx in
        let first : x ≡ y = ap (λ l. get_or l 0 x) (sym (head_kept x x xs (itself x)) ∙ h x ∙ head_kept x y ys tie) in
        ap (λ z. z ∷ xs) first ∙ ap (λ l. y ∷ l) (same_in_order xs ys up.1 vp.1
        (λ z. tails_if (ties lt z y) y (filter (ties lt z) xs) (filter (ties lt z) ys) (ap (λ w. cond (ties lt z w) (w ∷ filter (ties lt z) xs) (filter (ties lt z) xs)) (sym first) ∙ h z)))

    pub sorted_is : (xs ys : List X) → IsSortedBy lt ys → IsStableBy lt xs ys → ys ≡ put_all [] xs
    sorted_is xs ys up stable = same_in_order ys (put_all [] xs) (up_of ys (sorted_far lt o ys up)) (up_all [] xs tt) (λ x. stable x ∙ sym (kept_all x [] xs tt))
