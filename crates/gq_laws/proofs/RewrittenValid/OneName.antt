-- Where no name is repeated, what has one name is one.
use Rattle.std.proofs.Common.{◌≡◌, ◌⊎◌, inl, inr, ℕ, suc, List, [], ◌∷◌, Contains, refl, sym, ap, ◌∙◌, arith}
use Rattle.gq_names.specs.Repeats.{IsRepeated}
use Rattle.gq_types.proofs.Gathered.{nothing_in, cases_cons}

module _ {A : Type 0} (text : A → List ℕ) where
  repeated_later : (y : A) (ys : List A) (x : A) → IsRepeated text ys x → IsRepeated text (y ∷ ys) x
  repeated_later y ys x (i, at) = (
    suc i,
    record {
      here = (omega (arith, at.here.0), at.here.1);
      earlier = suc at.earlier;
      is_earlier = omega (arith, at.is_earlier);
      other = at.other;
      stands_earlier = (omega (arith, at.stands_earlier.0), at.stands_earlier.1);
      same_text = at.same_text;
    },
  )

  repeats_first : (y : A) (ys : List A) (x : A) → text y ≡ text x → Contains ys x → IsRepeated text (y ∷ ys) x
  repeats_first y ys x same (k, inside, is) = (suc k, record { here = (omega (arith, inside), is); earlier = 0; is_earlier = omega arith; other = y; stands_earlier = (omega arith, refl); same_text = same })

  pub one_named : (xs : List A) → ((x : A) → IsRepeated text xs x → ⊥) → (x y : A) → Contains xs x → Contains xs y → text y ≡ text x → y ≡ x
  one_named [] none x y c d e = nothing_in x c
  one_named (z ∷ xs) none x y c d e = by (cases_cons z x xs c) (cases_cons z y xs d) (λ f g. one_named xs (λ w r. none w (repeated_later z xs w r)) x y f g e)
    where
      by : (z ≡ x) ⊎ Contains xs x → (z ≡ y) ⊎ Contains xs y → (Contains xs x → Contains xs y → y ≡ x) → y ≡ x
      by (inl a) (inl b) next = sym b ∙ a
      by (inl a) (inr b) next = absurd (none y (repeats_first z xs y (ap text a ∙ sym e) b))
      by (inr a) (inl b) next = absurd (none x (repeats_first z xs x (ap text b ∙ e) a))
      by (inr a) (inr b) next = next a b
