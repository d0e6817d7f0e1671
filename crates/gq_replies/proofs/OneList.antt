-- Lists in order with the same members are one.
use Rattle.std.proofs.Common.{◌≡◌, ◌↔◌, List, [], ◌∷◌, Contains, refl, sym, ap, subst, ◌∙◌, ⊎_elim}
use Rattle.std.proofs.lemmas.List.Elements.{All-from_recursion, All-contains}
use Rattle.std.proofs.lemmas.Map.Keys.{sorted_head, sorted_tail}
use Rattle.std.specs.Cmp.{IsTotalOrder}
use Rattle.std.specs.List.Sorted.{IsStrictlySortedBy}
use Rattle.std.specs.declared.cmp.Ordering.{Ordering}
use Rattle.std.specs.declared.cmp.Ordering.TheVariants.{Less}
use Rattle.gq_types.proofs.Gathered.{nothing_in, first, later, cases_cons}

module _ {X : Type 0} {c : X → X → Ordering} (o : IsTotalOrder c) where
  never_both : (x y : X) → c x y ≡ Less → c y x ≡ Less → ⊥
  never_both x y a b = let e = o.antisymm x y in absurd (cc)

  above_head : (x : X) (xs : List X) → IsStrictlySortedBy c (x ∷ xs) → (z : X) → Contains xs z → c x z ≡ Less
  above_head x xs s z = All-contains (λ y. c x y ≡ Less) xs z (All-from_recursion (λ y. c x y ≡ Less) xs (sorted_head c x xs s))

  behind : (x y : X) (xs ys : List X) → x ≡ y → IsStrictlySortedBy c (x ∷ xs) → ((z : X) → Contains (x ∷ xs) z → Contains (y ∷ ys) z) → (z : X) → Contains xs z → Contains ys z
  behind x y xs ys e s h z k =
      ⊎_elim
      (λ q. let l = subst (λ w. c x w ≡ Less) (sym (e ∙ q)) (above_head x xs s z k) in absurd (never_both x x l l))
      (λ r. r)
      (cases_cons y z ys (h z (later x z xs k)))

  same_head : (x y : X) (xs ys : List X) → IsStrictlySortedBy c (x ∷ xs) → IsStrictlySortedBy c (y ∷ ys) → Contains (y ∷ ys) x → Contains (x ∷ xs) y → x ≡ y
  same_head x y xs ys s t a b =
      ⊎_elim
      (λ e. sym e)
      (λ l. ⊎_elim (λ e. e) (λ r. absurd (never_both x y (above_head x xs s y r) (above_head y ys t x l))) (cases_cons x y xs b))
      (cases_cons y x ys a)

  pub one_list : (xs ys : List X) → IsStrictlySortedBy c xs → IsStrictlySortedBy c ys → ((z : X) → Contains xs z ↔ Contains ys z) → xs ≡ ys
  one_list [] [] s t h = refl
  one_list [] (y ∷ ys) s t h = nothing_in y ((h y).1 (first y y ys refl))
  one_list (x ∷ xs) [] s t h = nothing_in x ((h x).0 (first x x xs refl))
  one_list (x ∷ xs) (y ∷ ys) s t h =
      let e = same_head x y xs ys s t ((h x).0 (first x x xs refl)) ((h y).1 (first y y ys refl)) in
      let rest = one_list xs ys (sorted_tail c x xs s) (sorted_tail c y ys t)
      (λ z. (behind x y xs ys e s (λ w. (h w).0) z, behind y x ys xs (sym e) t (λ w. (h w).1) z)) in
      ap (λ z. z ∷ xs) e ∙ ap (λ zs. y ∷ zs) rest
