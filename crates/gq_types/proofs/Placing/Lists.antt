-- Lists that are equal where something is forgotten.
use Rattle.std.proofs.Common.{◌≡◌, ℕ, zero, suc, ◌+◌, Bool, true, false, cond, List, [], ◌∷◌, ◌++◌, Option, Some, None, map, flat_map, length, refl, sym, ap, ◌∙◌, Contains, arith}
use Rattle.std.specs.Prelude.{◌||◌, not, filter, find, position, nat_lt, option_and_then}
use Rattle.std.specs.List.{list_any, position_or_len}
use Rattle.std.specs.Option.{option_map, option_map_or}
use Rattle.std.proofs.lemmas.List.{map-append}
use Rattle.gq_names.specs.Repeats.{StandsAt}

module _ {A K : Type 0} (h : A → K) where
  pub lengths : (xs ys : List A) → map h xs ≡ map h ys → length xs ≡ length ys
  lengths [] [] e = refl
  lengths [] (b ∷ ys) e = absurd (cc)
  lengths (a ∷ xs) [] e = absurd (cc)
  lengths (a ∷ xs) (b ∷ ys) e =
      let rest : map h xs ≡ map h ys = cc in
      ap suc (lengths xs ys rest)

  found_step : (s t : Bool) (a b : A) (o u : Option A) → s ≡ t → h a ≡ h b → option_map h o ≡ option_map h u → option_map h (cond s (Some a) o) ≡ option_map h (cond t (Some b) u)
  found_step true true a b o u st e r = ap (λ z. Some z) e
  found_step true false a b o u st e r = absurd (cc)
  found_step false true a b o u st e r = absurd (cc)
  found_step false false a b o u st e r = r

  kept_step : (s t : Bool) (a b : A) (xs ys : List A) → s ≡ t → h a ≡ h b → map h xs ≡ map h ys → map h (cond s (a ∷ xs) xs) ≡ map h (cond t (b ∷ ys) ys)
  kept_step true true a b xs ys st e r = ap (λ z. z ∷ map h xs) e ∙ ap (λ z. h b ∷ z) r
  kept_step true false a b xs ys st e r = absurd (cc)
  kept_step false true a b xs ys st e r = absurd (cc)
  kept_step false false a b xs ys st e r = r

  -- a test that does not see what is forgotten
  module _ (p q : A → Bool) (blind : (a b : A) → h a ≡ h b → p a ≡ q b) where
    pub found : (xs ys : List A) → map h xs ≡ map h ys → option_map h (find p xs) ≡ option_map h (find q ys)
    found [] [] e = refl
    found [] (b ∷ ys) e = absurd (cc)
    found (a ∷ xs) [] e = absurd (cc)
    found (a ∷ xs) (b ∷ ys) e =
        let first : h a ≡ h b = cc in
        let rest : map h xs ≡ map h ys = cc in
        found_step (p a) (q b) a b (find p xs) (find q ys) (blind a b first) first (found xs ys rest)

    pub kept : (xs ys : List A) → map h xs ≡ map h ys → map h (filter p xs) ≡ map h (filter q ys)
    kept [] [] e = refl
    kept [] (b ∷ ys) e = absurd (cc)
    kept (a ∷ xs) [] e = absurd (cc)
    kept (a ∷ xs) (b ∷ ys) e =
        let first : h a ≡ h b = cc in
        let rest : map h xs ≡ map h ys = cc in
        kept_step (p a) (q b) a b (filter p xs) (filter q ys) (blind a b first) first (kept xs ys rest)

    pub any : (xs ys : List A) → map h xs ≡ map h ys → list_any p xs ≡ list_any q ys
    any [] [] e = refl
    any [] (b ∷ ys) e = absurd (cc)
    any (a ∷ xs) [] e = absurd (cc)
    any (a ∷ xs) (b ∷ ys) e =
        let first : h a ≡ h b = cc in
        let rest : map h xs ≡ map h ys = cc in
        ap (λ z. z || list_any p xs) (blind a b first) ∙ ap (λ z. q b || z) (any xs ys rest)

    before : (xs ys : List A) → map h xs ≡ map h ys → position_or_len p xs ≡ position_or_len q ys
    before [] [] e = refl
    before [] (b ∷ ys) e = absurd (cc)
    before (a ∷ xs) [] e = absurd (cc)
    before (a ∷ xs) (b ∷ ys) e =
        let first : h a ≡ h b = cc in
        let rest : map h xs ≡ map h ys = cc in
        ap (λ z. cond (not z) (1 + position_or_len p xs) 0) (blind a b first) ∙ ap (λ n. cond (not (q b)) (1 + n) 0) (before xs ys rest)

    pub positions : (xs ys : List A) → map h xs ≡ map h ys → position p xs ≡ position q ys
    positions xs ys e =
        ap (λ n. cond (nat_lt n (length xs)) (Some n) None) (before xs ys e) ∙ ap (λ l. cond (nat_lt (position_or_len q ys) l) (Some (position_or_len q ys)) None) (lengths xs ys e)

  -- what is gathered of them
  pub gathered : {B L : Type 0} (k : B → L) (f : A → List B) → ((a b : A) → h a ≡ h b → map k (f a) ≡ map k (f b)) → (xs ys : List A) → map h xs ≡ map h ys → map k (flat_map f xs) ≡ map k (flat_map f ys)
  gathered k f each [] [] e = refl
  gathered k f each [] (b ∷ ys) e = absurd (cc)
  gathered k f each (a ∷ xs) [] e = absurd (cc)
  gathered k f each (a ∷ xs) (b ∷ ys) e =
      let first : h a ≡ h b = cc in
      let rest : map h xs ≡ map h ys = cc in
      map-append k (f a) (flat_map f xs) ∙ ap (λ z. z ++ map k (flat_map f xs)) (each a b first) ∙ ap (λ z. map k (f b) ++ z) (gathered k f each xs ys rest) ∙ sym (map-append k (f b) (flat_map f ys))

  -- options of them
  pub and_then_alike : {B : Type 0} (f : A → Option B) → ((a b : A) → h a ≡ h b → f a ≡ f b) → (o u : Option A) → option_map h o ≡ option_map h u → option_and_then f o ≡ option_and_then f u
  and_then_alike f each None None e = refl
  and_then_alike f each None (Some b) e = absurd (cc)
  and_then_alike f each (Some a) None e = absurd (cc)
  and_then_alike f each (Some a) (Some b) e =
      let same : h a ≡ h b = cc in
      each a b same

-- what is the same by finer looks is so by coarser ones
pub weaken_by : {A K L : Type 0} (h g : A → K) (k l : A → L) → ((a b : A) → h a ≡ g b → k a ≡ l b) → (xs ys : List A) → map h xs ≡ map g ys → map k xs ≡ map l ys
weaken_by h g k l each [] [] e = refl
weaken_by h g k l each [] (b ∷ ys) e = absurd (cc)
weaken_by h g k l each (a ∷ xs) [] e = absurd (cc)
weaken_by h g k l each (a ∷ xs) (b ∷ ys) e =
    let first : h a ≡ g b = cc in
    let rest : map h xs ≡ map g ys = cc in
    ap (λ z. z ∷ map k xs) (each a b first) ∙ ap (λ z. l b ∷ z) (weaken_by h g k l each xs ys rest)

pub weaken : {A K L : Type 0} (h : A → K) (k : A → L) → ((a b : A) → h a ≡ h b → k a ≡ k b) → (xs ys : List A) → map h xs ≡ map h ys → map k xs ≡ map k ys
weaken h k each xs ys e = weaken_by h h k k each xs ys e

-- what stands at a place of one list, at the same place of the other
pub stands_by : {A K : Type 0} (h g : A → K) (xs ys : List A) → map h xs ≡ map g ys → (k : ℕ) (x : A) → StandsAt xs k x → (y : A) × StandsAt ys k y × (h x ≡ g y)
stands_by h g [] ys e k x s = absurd (omega (arith, s.0))
stands_by h g (a ∷ xs) [] e k x s = absurd (cc)
stands_by h g (a ∷ xs) (b ∷ ys) e zero x s =
    let same : h a ≡ g b = cc in
    (b, (omega arith, refl), ap h (sym s.1) ∙ same)
stands_by h g (a ∷ xs) (b ∷ ys) e (suc k) x s =
    let rest : map h xs ≡ map g ys = cc in
    let r = stands_by h g xs ys rest k x (omega (arith, s.0), s.1) in
    (r.0, (omega (arith, r.1.0), r.1.1), r.2)

pub contains_by : {A K : Type 0} (h g : A → K) (xs ys : List A) → map h xs ≡ map g ys → (x : A) → Contains xs x → (y : A) × Contains ys y × (h x ≡ g y)
contains_by h g xs ys e x c = let r = stands_by h g xs ys e c.0 x (c.1, c.2) in (r.0, (c.0, r.1.0, r.1.1), r.2)

pub map_twice : {A B C : Type 0} (g : A → B) (h : B → C) (o : Option A) → option_map h (option_map g o) ≡ option_map (λ a. h (g a)) o
map_twice g h None = refl
map_twice g h (Some a) = refl

pub and_then_same : {N A K : Type 0} (h : A → K) (f g : N → Option A) → ((n : N) → option_map h (f n) ≡ option_map h (g n)) → (o : Option N) → option_map h (option_and_then f o) ≡ option_map h (option_and_then g o)
and_then_same h f g each None = refl
and_then_same h f g each (Some n) = each n

pub map_or_same : {A B : Type 0} (f g : A → B) (d : B) → ((n : A) → f n ≡ g n) → (o : Option A) → option_map_or f o d ≡ option_map_or g o d
map_or_same f g d each None = refl
map_or_same f g d each (Some n) = each n
