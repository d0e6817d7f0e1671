-- The list of repeated items holds what the relation says.
use Rattle.std.proofs.Common.{◌≡◌, ℕ, zero, suc, ◌<◌, Bool, true, false, if◌then◌else◌, List, [], ◌∷◌, ◌++◌, ◌⊎◌, inl, inr, ◌↔◌, Contains, refl, sym, ◌∙◌, ap, subst, arith}
use Rattle.std.specs.Cmp.Lexicographic.{bytes_decides, nat_list_eq_equiv}
use Rattle.std.specs.List.{list_any}
use Rattle.std.specs.Str.{bytes_eq}
use Rattle.std.proofs.lemmas.List.Elements.{Contains-append_left, Contains-append_right, Contains-append_cases, Contains-push, Contains-push_cases}
use Rattle.std.proofs.lemmas.Map.Views.{Contains-from_any, list_any-from_Contains}
use Rattle.gq_names.specs.Repeats.{repeated, repeated_after, StandsAt, IsRepeated, IsRepeatedAfter}

module _ {A : Type 0} where
  pub contains_none : (x : A) → Contains [] x → ⊥
  contains_none x (k, inside, is) = omega (arith, inside)

  pub contains_later : (y : A) (ys : List A) (x : A) → Contains ys x → Contains (y ∷ ys) x
  contains_later y ys x (k, inside, is) = (suc k, omega (arith, inside), is)

  pub contains_first : (y : A) (ys : List A) (x : A) → y ≡ x → Contains (y ∷ ys) x
  contains_first y ys x is = (0, omega arith, is)

  pub contains_cases : (y : A) (ys : List A) (x : A) → Contains (y ∷ ys) x → (y ≡ x) ⊎ Contains ys x
  contains_cases y ys x (zero, inside, is) = inl is
  contains_cases y ys x (suc k, inside, is) = inr (k, omega (arith, inside), is)

module _ {A : Type 0} (text : A → List ℕ) where
  repeated_later : (y : A) (ys : List A) (x : A) → IsRepeated text ys x → IsRepeated text (y ∷ ys) x
  repeated_later y ys x (i, at) = (
    suc i,
    record {
      here = (omega (arith, at.here.0), at.here.1);
      earlier = suc at.earlier;
      is_earlier = omega (arith, at.is_earlier);
      other = at.other;
      stands_earlier = (omega (arith, at.stands_earlier.0), at.stands_earlier.1);
      same_text = at.same_text;
    },
  )

  -- x stands in the rest of a list that begins with an item of its text
  repeated_from_first : (y : A) (ys : List A) (x : A) → text y ≡ text x → Contains ys x → IsRepeated text (y ∷ ys) x
  repeated_from_first y ys x same (k, inside, is) = (suc k, record { here = (omega (arith, inside), is); earlier = 0; is_earlier = omega arith; other = y; stands_earlier = (omega arith, refl); same_text = same })

  to_first : (before : List (List ℕ)) (y : A) (ys : List A) (x : A) (b : Bool) → list_any (bytes_eq (text y)) before ≡ b → Contains (if b then y ∷ [] else []) x → IsRepeatedAfter text before (y ∷ ys) x
  to_first before y ys x true any found = elim (contains_cases y [] x found) [
    | inl is ↦ inl (contains_first y ys x is, subst (λ z. Contains before (text z)) is (Contains-from_any (λ s t same. (bytes_decides s t).0 same) (text y) before any))
    | inr none ↦ absurd (contains_none x none)
  ]
  to_first before y ys x false any found = absurd (contains_none x found)

  to_rest : (before : List (List ℕ)) (y : A) (ys : List A) (x : A) → IsRepeatedAfter text (before ++ text y ∷ []) ys x → IsRepeatedAfter text before (y ∷ ys) x
  to_rest before y ys x (inl (stands, known)) = elim (Contains-push_cases before (text y) (text x) known) [
    | inl known_before ↦ inl (contains_later y ys x stands, known_before)
    | inr same ↦ inr (repeated_from_first y ys x same stands)
  ]
  to_rest before y ys x (inr again) = inr (repeated_later y ys x again)

  to_relation : (before : List (List ℕ)) (xs : List A) (x : A) → Contains (repeated_after text before xs) x → IsRepeatedAfter text before xs x
  to_relation before [] x found = absurd (contains_none x found)
  to_relation before (y ∷ ys) x found = elim (Contains-append_cases (if list_any (bytes_eq (text y)) before then y ∷ [] else []) (repeated_after text (before ++ text y ∷ []) ys) x found) [
    | inl first ↦ to_first before y ys x (list_any (bytes_eq (text y)) before) refl first
    | inr rest ↦ to_rest before y ys x (to_relation (before ++ text y ∷ []) ys x rest)
  ]

  from_first : (before : List (List ℕ)) (y : A) (x : A) → y ≡ x → Contains before (text x) → Contains (if list_any (bytes_eq (text y)) before then y ∷ [] else []) x
  from_first before y x is known =
      let any = list_any-from_Contains nat_list_eq_equiv (text y) before (subst (λ z. Contains before (text z)) (sym is) known) in
      subst (λ b. Contains (if b then y ∷ [] else []) x) (sym any) (contains_first y [] x is)

  from_places : (before : List (List ℕ)) (y : A) (ys : List A) (x : A) (i e : ℕ) (other : A) → StandsAt (y ∷ ys) i x → e < i → StandsAt (y ∷ ys) e other → text other ≡ text x → IsRepeatedAfter text (before ++ text y ∷ []) ys x
  from_places before y ys x zero e other here lt there same = absurd (omega (arith, lt))
  from_places before y ys x (suc i) zero other here lt there same =
      inl ((i, omega (arith, here.0), here.1), subst (λ t. Contains (before ++ text y ∷ []) t) (ap text there.1 ∙ same) (Contains-push before (text y)))
  from_places before y ys x (suc i) (suc e) other here lt there same =
      inr (i, record { here = (omega (arith, here.0), here.1); earlier = e; is_earlier = omega (arith, lt); other = other; stands_earlier = (omega (arith, there.0), there.1); same_text = same })

  from_relation : (before : List (List ℕ)) (xs : List A) (x : A) → IsRepeatedAfter text before xs x → Contains (repeated_after text before xs) x
  from_relation before [] x (inl (stands, known)) = absurd (contains_none x stands)
  from_relation before [] x (inr (i, at)) = absurd (omega (arith, at.here.0))
  from_relation before (y ∷ ys) x (inl (stands, known)) = elim (contains_cases y ys x stands) [
    | inl is ↦ Contains-append_left (if list_any (bytes_eq (text y)) before then y ∷ [] else []) (repeated_after text (before ++ text y ∷ []) ys) x (from_first before y x is known)
    | inr later ↦ Contains-append_right (if list_any (bytes_eq (text y)) before then y ∷ [] else []) (repeated_after text (before ++ text y ∷ []) ys) x
        (from_relation (before ++ text y ∷ []) ys x (inl (later, Contains-append_left before (text y ∷ []) (text x) known)))
  ]
  from_relation before (y ∷ ys) x (inr (i, at)) =
      Contains-append_right (if list_any (bytes_eq (text y)) before then y ∷ [] else []) (repeated_after text (before ++ text y ∷ []) ys) x
      (from_relation (before ++ text y ∷ []) ys x (from_places before y ys x i at.earlier at.other at.here at.is_earlier at.stands_earlier at.same_text))

  pub repeated_after_is : (before : List (List ℕ)) (xs : List A) (x : A) → Contains (repeated_after text before xs) x ↔ IsRepeatedAfter text before xs x
  repeated_after_is before xs x = (to_relation before xs x, from_relation before xs x)

  to_repeated : (xs : List A) (x : A) → IsRepeatedAfter text [] xs x → IsRepeated text xs x
  to_repeated xs x (inl (stands, known)) = absurd (contains_none (text x) known)
  to_repeated xs x (inr again) = again

  pub repeated_is : (xs : List A) (x : A) → Contains (repeated text xs) x ↔ IsRepeated text xs x
  repeated_is xs x = (λ found. to_repeated xs x (to_relation [] xs x found), λ again. from_relation [] xs x (inr again))
