-- Numbers put under each name of a list, once where a name stands there twice.
use Rattle.std.proofs.Common.{◌≡◌, ℕ, ◌+◌, ◌<◌, Bool, true, false, List, [], ◌∷◌, ◌++◌, Option, Some, None, length, get_or, sym, ◌∙◌, ap, subst, refl, append-nil, take, zero, suc, inl, inr, arith}
use Rattle.std.specs.Prelude.{◌||◌}
use Rattle.std.specs.List.{list_any, position}
use Rattle.std.specs.Option.{is_some}
use Rattle.std.specs.Str.{bytes_eq}
use Rattle.std.specs.Cmp.Lexicographic.{bytes_decides, nat_list_eq_equiv}
use Rattle.std.proofs.lemmas.Bool.{false≢true, cases_lt}
use Rattle.std.proofs.lemmas.List.Folds.{list_any_at, list_any_more}
use Rattle.std.proofs.lemmas.List.{length-take-le, get_or-take}
use Rattle.std.proofs.lemmas.List.Quantifiers.{position-Some}
use Rattle.gq_names.proofs.PlaceLemmas.{is_some_position}
use Rattle.gq_names.specs.UnderNames.{one_if}
use Rattle.gq_types.specs.Entries.{Text}

any_before : {X : Type 0} (p : X → Bool) (d : X) (xs : List X) (i : ℕ) → list_any p (take i xs) ≡ true → (k : ℕ) × (k < i) × (p (get_or xs k d) ≡ true)
any_before p d xs zero h = absurd (false≢true h)
any_before p d [] (suc i) h = absurd (false≢true h)
any_before p d (x ∷ xs) (suc i) h = by_head (any_before p d xs i) (p x) refl h
  where
    by_head : (list_any p (take i xs) ≡ true → (k : ℕ) × (k < i) × (p (get_or xs k d) ≡ true)) → (b : Bool) → p x ≡ b → (b || list_any p (take i xs)) ≡ true → (k : ℕ) × (k < suc i) × (p (get_or (x ∷ xs) k d) ≡ true)
    by_head later true e g = (0, omega arith, e)
    by_head later false e g = let r = later g in (suc r.0, omega (arith, r.1), r.2)

-- a name whose first place that is stands nowhere before
not_before : {X : Type 0} (p : X → Bool) (d : X) (xs : List X) (i : ℕ) (b : Bool) → position p xs ≡ Some i → list_any p (take i xs) ≡ b → b ≡ false
not_before p d xs i false at e = refl
not_before p d xs i true at e =
    let r = any_before p d xs i e in
    absurd (false≢true (sym ((position-Some p xs i d at).2 r.0 r.1) ∙ r.2))

-- and one whose first place that is not stands before
is_before : {X : Type 0} (p : X → Bool) (d : X) (xs : List X) (i : ℕ) (b : Bool) (o : Option ℕ) → i < length xs → p (get_or xs i d) ≡ true →
    (position p xs ≡ Some i → ⊥) → position p xs ≡ o → list_any p (take i xs) ≡ b → b ≡ true
is_before p d xs i true o lt passes other is e = refl
is_before p d xs i false None lt passes other is e =
    absurd (false≢true (sym (ap is_some is) ∙ is_some_position p xs ∙ list_any_at p xs i d lt passes))
is_before p d xs i false (Some j) lt passes other is e =
    let h = position-Some p xs j d is in
    elim (cases_lt j i) [
      | inl below ↦ absurd (false≢true (sym e ∙ list_any_at p (take i xs) j d (subst (λ n. j < n) (sym (length-take-le i xs (omega (arith, lt)))) below) (ap p (get_or-take i xs j d below) ∙ h.1)))
      | inr above ↦ elim (cases_lt i j) [
        | inl past ↦ absurd (false≢true (sym (h.2 i past) ∙ passes))
        | inr same ↦ absurd (other (is ∙ ap Some (omega (arith, above, same))))
      ]
    ]

-- the names so far, each number once
module _ (names : List Text) (place number : ℕ) (name : Text) (inside : place < length names) (read : name ≡ get_or names place []) (text : Text) where
  more : list_any (bytes_eq text) (take (place + 1) names) ≡ (list_any (bytes_eq text) (take place names) || bytes_eq text name)
  more = list_any_more (bytes_eq text) names place [] inside ∙ ap (λ n. list_any (bytes_eq text) (take place names) || bytes_eq text n) (sym read)

  itself : bytes_eq name (get_or names place []) ≡ true
  itself = ap (bytes_eq name) (sym read) ∙ nat_list_eq_equiv.refl name

  put_parts : (b e : Bool) (d : List ℕ) → (e ≡ true → b ≡ false) → (d ++ one_if b number) ++ one_if e number ≡ d ++ one_if (b || e) number
  put_parts true true d h = absurd (false≢true (sym (h refl)))
  put_parts true false d h = append-nil (d ++ number ∷ [])
  put_parts false true d h = ap (λ l. l ++ number ∷ []) (append-nil d)
  put_parts false false d h = append-nil (d ++ [])

  kept_parts : (b e : Bool) (d : List ℕ) → (e ≡ true → b ≡ true) → d ++ one_if b number ≡ d ++ one_if (b || e) number
  kept_parts true e d h = refl
  kept_parts false true d h = absurd (false≢true (h refl))
  kept_parts false false d h = refl

  -- the name stands there for the first time
  pub put_first : position (bytes_eq name) names ≡ Some place → (start old new : List ℕ) → old ≡ start ++ one_if (list_any (bytes_eq text) (take place names)) number →
      new ≡ old ++ one_if (bytes_eq text name) number → new ≡ start ++ one_if (list_any (bytes_eq text) (take (place + 1) names)) number
  put_first at start old new was is =
      is ∙ ap (λ l. l ++ one_if (bytes_eq text name) number) was
      ∙ put_parts (list_any (bytes_eq text) (take place names)) (bytes_eq text name) start
      (λ e. ap (λ t. list_any (bytes_eq t) (take place names)) ((bytes_decides text name).0 e) ∙ not_before (bytes_eq name) [] names place (list_any (bytes_eq name) (take place names)) at refl)
      ∙ ap (λ b. start ++ one_if b number) (sym more)

  -- or again
  pub put_again : (position (bytes_eq name) names ≡ Some place → ⊥) → (start old : List ℕ) → old ≡ start ++ one_if (list_any (bytes_eq text) (take place names)) number →
      old ≡ start ++ one_if (list_any (bytes_eq text) (take (place + 1) names)) number
  put_again other start old was =
      was
      ∙ kept_parts (list_any (bytes_eq text) (take place names)) (bytes_eq text name) start
      (λ e. ap (λ t. list_any (bytes_eq t) (take place names)) ((bytes_decides text name).0 e)
      ∙ is_before (bytes_eq name) [] names place (list_any (bytes_eq name) (take place names)) (position (bytes_eq name) names) inside itself other refl refl)
      ∙ ap (λ b. start ++ one_if b number) (sym more)
