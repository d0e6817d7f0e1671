-- Fragments that lead nowhere back can be ranked: by how many of them each leads to. What leads where is decided by letting ways go
-- through one definition more at a time.
use Rattle.std.proofs.Common.{◌≡◌, inl, inr, ℕ, suc, ◌<◌, ◌≤◌, Bool, true, false, List, [], ◌∷◌, ◌++◌, length, refl, sym, ◌∙◌, ap, subst, arith, ◌+◌}
use Rattle.std.specs.Prelude.{◌⊎◌, ◌&&◌, ◌||◌}
use Rattle.std.specs.List.{list_any}
use Rattle.std.specs.Str.{bytes_eq}
use Rattle.gq_meaning.specs.Values.{Text}
use Rattle.gq_meaning.proofs.TextLemmas.{same_text, text_same}
use Rattle.gq_meaning.specs.Selected.{Set, none, field, spread, inline}
use Rattle.gq_meaning.specs.Expand.{Definition}
use Rattle.gq_meaning.specs.Thin.{IsIn}
use Rattle.gq_meaning.specs.Acyclic.{SpreadsBelow, IsRanked, Rankable}

-- the fragments that a set spreads, at any depth
abbrev pub spreads_of : Set → List Text
spreads_of none = []
spreads_of (field w k n a set rest) = spreads_of set ++ spreads_of rest
spreads_of (spread w f rest) = f ∷ spreads_of rest
spreads_of (inline w on set rest) = spreads_of set ++ spreads_of rest

-- a definition of the one name spreads the other
abbrev pub leads_at_once : List Definition → (f g : Text) → Bool
leads_at_once [] f g = false
leads_at_once (d ∷ ds) f g = (bytes_eq f d.name && list_any (bytes_eq g) (spreads_of d.set)) || leads_at_once ds f g

-- a way leads from the one name to the other, through names of these definitions alone
abbrev pub leads_through : List Definition → (f g : Text) → List Definition → Bool
leads_through ds f g [] = leads_at_once ds f g
leads_through ds f g (e ∷ es) = leads_through ds f g es || (leads_through ds f e.name es && leads_through ds e.name g es)

-- a way of spreads leads from the one name to the other
pub data Graph (ds : List Definition) : (f g : Text) → Type 0 where
  at_once : {f g : Text} (d : Definition) → IsIn d ds → f ≡ d.name → IsIn g (spreads_of d.set) → Graph ds f g
  on_way : {f m g : Text} → Graph ds f m → Graph ds m g → Graph ds f g

or_parts : (x y : Bool) → (x || y) ≡ true → (x ≡ true) ⊎ (y ≡ true)
or_parts true y e = inl refl
or_parts false y e = inr e

or_first : (x y : Bool) → x ≡ true → (x || y) ≡ true
or_first true y e = refl
or_first false y e = let bad : true ≡ false = sym e in cc

or_second : (x y : Bool) → y ≡ true → (x || y) ≡ true
or_second true y e = refl
or_second false y e = e

and_parts : (x y : Bool) → (x && y) ≡ true → (x ≡ true) × (y ≡ true)
and_parts true true e = (refl, refl)
and_parts true false e = let bad : true ≡ false = sym e in cc
and_parts false y e = let bad : true ≡ false = sym e in cc

and_both : (x y : Bool) → x ≡ true → y ≡ true → (x && y) ≡ true
and_both true y e h = h
and_both false y e h = let bad : true ≡ false = sym e in cc

-- ---- at once

any_in : (g : Text) (ts : List Text) → list_any (bytes_eq g) ts ≡ true → IsIn g ts
any_in g [] e = let bad : true ≡ false = sym e in cc
any_in g (t ∷ ts) e = elim (or_parts (bytes_eq g t) (list_any (bytes_eq g) ts) e) [
  | inl h ↦ inl (same_text g t h)
  | inr h ↦ inr (any_in g ts h)
]

in_any : (g : Text) (ts : List Text) → IsIn g ts → list_any (bytes_eq g) ts ≡ true
in_any g [] m = absurd m
in_any g (t ∷ ts) (inl e) = or_first (bytes_eq g t) (list_any (bytes_eq g) ts) (text_same g t e)
in_any g (t ∷ ts) (inr m) = or_second (bytes_eq g t) (list_any (bytes_eq g) ts) (in_any g ts m)

once_sound : (all ds : List Definition) (f g : Text) → ((d : Definition) → IsIn d ds → IsIn d all) → leads_at_once ds f g ≡ true → Graph all f g
once_sound all [] f g within e = let bad : true ≡ false = sym e in cc
once_sound all (d ∷ ds) f g within e = elim (or_parts (bytes_eq f d.name && list_any (bytes_eq g) (spreads_of d.set)) (leads_at_once ds f g) e) [
  | inl h ↦ let p = and_parts (bytes_eq f d.name) (list_any (bytes_eq g) (spreads_of d.set)) h in at_once d (within d (inl refl)) (same_text f d.name p.0) (any_in g (spreads_of d.set) p.1)
  | inr h ↦ once_sound all ds f g (λ x m. within x (inr m)) h
]

once_there : (ds : List Definition) (d : Definition) (g : Text) → IsIn d ds → IsIn g (spreads_of d.set) → leads_at_once ds d.name g ≡ true
once_there [] d g m s = absurd m
once_there (e ∷ ds) d g (inl q) s = or_first (bytes_eq d.name e.name && list_any (bytes_eq g) (spreads_of e.set)) (leads_at_once ds d.name g)
    (and_both (bytes_eq d.name e.name) (list_any (bytes_eq g) (spreads_of e.set)) (text_same d.name e.name (ap (λ z. z.name) q)) (in_any g (spreads_of e.set) (subst (λ z. IsIn g (spreads_of z.set)) q s)))
once_there (e ∷ ds) d g (inr m) s = or_second (bytes_eq d.name e.name && list_any (bytes_eq g) (spreads_of e.set)) (leads_at_once ds d.name g) (once_there ds d g m s)

-- ---- through definitions

further : (ds es : List Definition) (f g : Text) → leads_at_once ds f g ≡ true → leads_through ds f g es ≡ true
further ds [] f g h = h
further ds (e ∷ es) f g h = or_first (leads_through ds f g es) (leads_through ds f e.name es && leads_through ds e.name g es) (further ds es f g h)

through_sound : (ds es : List Definition) (f g : Text) → leads_through ds f g es ≡ true → Graph ds f g
through_sound ds [] f g h = once_sound ds ds f g (λ d m. m) h
through_sound ds (e ∷ es) f g h = elim (or_parts (leads_through ds f g es) (leads_through ds f e.name es && leads_through ds e.name g es) h) [
  | inl k ↦ through_sound ds es f g k
  | inr k ↦ let p = and_parts (leads_through ds f e.name es) (leads_through ds e.name g es) k in on_way (through_sound ds es f e.name p.0) (through_sound ds es e.name g p.1)
]

to_first : (ds es : List Definition) (e : Definition) (f : Text) → leads_through ds f e.name (e ∷ es) ≡ true → leads_through ds f e.name es ≡ true
to_first ds es e f h = by_parts (or_parts (leads_through ds f e.name es) (leads_through ds f e.name es && leads_through ds e.name e.name es) h)
  where
    by_parts : (leads_through ds f e.name es ≡ true) ⊎ ((leads_through ds f e.name es && leads_through ds e.name e.name es) ≡ true) → leads_through ds f e.name es ≡ true
    by_parts (inl k) = k
    by_parts (inr k) = (and_parts (leads_through ds f e.name es) (leads_through ds e.name e.name es) k).0

from_first : (ds es : List Definition) (e : Definition) (g : Text) → leads_through ds e.name g (e ∷ es) ≡ true → leads_through ds e.name g es ≡ true
from_first ds es e g h = by_parts (or_parts (leads_through ds e.name g es) (leads_through ds e.name e.name es && leads_through ds e.name g es) h)
  where
    by_parts : (leads_through ds e.name g es ≡ true) ⊎ ((leads_through ds e.name e.name es && leads_through ds e.name g es) ≡ true) → leads_through ds e.name g es ≡ true
    by_parts (inl k) = k
    by_parts (inr k) = (and_parts (leads_through ds e.name e.name es) (leads_through ds e.name g es) k).1

by_first : (ds es : List Definition) (e : Definition) (f g : Text) → leads_through ds f e.name es ≡ true → leads_through ds e.name g es ≡ true → leads_through ds f g (e ∷ es) ≡ true
by_first ds es e f g a b = or_second (leads_through ds f g es) (leads_through ds f e.name es && leads_through ds e.name g es) (and_both (leads_through ds f e.name es) (leads_through ds e.name g es) a b)

not_by_first : (ds es : List Definition) (e : Definition) (f g : Text) → leads_through ds f g es ≡ true → leads_through ds f g (e ∷ es) ≡ true
not_by_first ds es e f g a = or_first (leads_through ds f g es) (leads_through ds f e.name es && leads_through ds e.name g es) a

-- a way to a definition and a way on from it are a way
joined : (ds es : List Definition) (d : Definition) → IsIn d es → (f g : Text) → leads_through ds f d.name es ≡ true → leads_through ds d.name g es ≡ true → leads_through ds f g es ≡ true
joined ds [] d m f g a b = absurd m
joined ds (e ∷ es) d (inl q) f g a b =
    let a' : leads_through ds f e.name (e ∷ es) ≡ true = subst (λ z. leads_through ds f z.name (e ∷ es) ≡ true) q a in
    let b' : leads_through ds e.name g (e ∷ es) ≡ true = subst (λ z. leads_through ds z.name g (e ∷ es) ≡ true) q b in
    by_first ds es e f g (to_first ds es e f a') (from_first ds es e g b')
joined ds (e ∷ es) d (inr m) f g a b =
    by_parts (λ x y. joined ds es d m x y) (or_parts (leads_through ds f d.name es) (leads_through ds f e.name es && leads_through ds e.name d.name es) a)
    (or_parts (leads_through ds d.name g es) (leads_through ds d.name e.name es && leads_through ds e.name g es) b)
  where
    by_parts : ((x y : Text) → leads_through ds x d.name es ≡ true → leads_through ds d.name y es ≡ true → leads_through ds x y es ≡ true) →
        (leads_through ds f d.name es ≡ true) ⊎ ((leads_through ds f e.name es && leads_through ds e.name d.name es) ≡ true) →
        (leads_through ds d.name g es ≡ true) ⊎ ((leads_through ds d.name e.name es && leads_through ds e.name g es) ≡ true) → leads_through ds f g (e ∷ es) ≡ true
    by_parts on (inl h) (inl k) = not_by_first ds es e f g (on f g h k)
    by_parts on (inl h) (inr k) = let p = and_parts (leads_through ds d.name e.name es) (leads_through ds e.name g es) k in by_first ds es e f g (on f e.name h p.0) p.1
    by_parts on (inr h) (inl k) = let p = and_parts (leads_through ds f e.name es) (leads_through ds e.name d.name es) h in by_first ds es e f g p.0 (on e.name g p.1 k)
    by_parts on (inr h) (inr k) = let p = and_parts (leads_through ds f e.name es) (leads_through ds e.name d.name es) h in let r = and_parts (leads_through ds d.name e.name es) (leads_through ds e.name g es) k in by_first ds es e f g p.0 r.1

-- ---- counting

abbrev pub one_if : Bool → ℕ
one_if true = 1
one_if false = 0

abbrev pub count : (Text → Bool) → List Definition → ℕ
count p [] = 0
count p (d ∷ ds) = one_if (p d.name) + count p ds

count_most : (p : Text → Bool) (ds : List Definition) → count p ds ≤ length ds
count_most p [] = omega arith
count_most p (d ∷ ds) = by_test (p d.name) (count_most p ds)
  where
    by_test : (b : Bool) → count p ds ≤ length ds → one_if b + count p ds ≤ suc (length ds)
    by_test true h = omega arith
    by_test false h = omega arith

count_short : (p : Text → Bool) (ds : List Definition) (d : Definition) → IsIn d ds → p d.name ≡ false → count p ds < length ds
count_short p [] d m f = absurd m
count_short p (e ∷ ds) d (inl q) f = by_test (p e.name) (ap (λ z. p z.name) (sym q) ∙ f) (count_most p ds)
  where
    by_test : (b : Bool) → b ≡ false → count p ds ≤ length ds → one_if b + count p ds < suc (length ds)
    by_test true h k = let bad : true ≡ false = h in cc
    by_test false h k = omega arith
count_short p (e ∷ ds) d (inr m) f = by_test (p e.name) (count_short p ds d m f)
  where
    by_test : (b : Bool) → count p ds < length ds → one_if b + count p ds < suc (length ds)
    by_test true h = omega arith
    by_test false h = omega arith

one_grows : (b c : Bool) → (b ≡ true → c ≡ true) → one_if b ≤ one_if c
one_grows true true h = omega arith
one_grows true false h = let bad : false ≡ true = h refl in cc
one_grows false true h = omega arith
one_grows false false h = omega arith

count_grows : (p q : Text → Bool) (ds : List Definition) → ((d : Definition) → IsIn d ds → p d.name ≡ true → q d.name ≡ true) → count p ds ≤ count q ds
count_grows p q [] h = omega arith
count_grows p q (d ∷ ds) h = let a = one_grows (p d.name) (q d.name) (h d (inl refl)) in let b = count_grows p q ds (λ x m. h x (inr m)) in omega arith

count_more : (p q : Text → Bool) (ds : List Definition) (d : Definition) → IsIn d ds → p d.name ≡ false → q d.name ≡ true → ((x : Definition) → IsIn x ds → p x.name ≡ true → q x.name ≡ true) → count p ds < count q ds
count_more p q [] d m f t h = absurd m
count_more p q (e ∷ ds) d (inl k) f t h =
    let b = count_grows p q ds (λ x m. h x (inr m)) in
    let u : p e.name ≡ false = ap (λ z. p z.name) (sym k) ∙ f in
    let v : q e.name ≡ true = ap (λ z. q z.name) (sym k) ∙ t in
    by_test (p e.name) (q e.name) u v b
  where
    by_test : (x y : Bool) → x ≡ false → y ≡ true → count p ds ≤ count q ds → one_if x + count p ds < one_if y + count q ds
    by_test true y u v b = let bad : true ≡ false = u in cc
    by_test false true u v b = omega arith
    by_test false false u v b = let bad : false ≡ true = v in cc
count_more p q (e ∷ ds) d (inr m) f t h = let a = one_grows (p e.name) (q e.name) (h e (inl refl)) in let b = count_more p q ds d m f t (λ x i. h x (inr i)) in omega arith

-- ---- ranks

abbrev pub rank_in : List Definition → Text → ℕ
rank_in ds f = count (λ g. leads_through ds f g ds) ds

split_in : (a b : List Text) (g : Text) → IsIn g a → IsIn g (a ++ b)
split_in [] b g m = absurd m
split_in (x ∷ a) b g (inl e) = inl e
split_in (x ∷ a) b g (inr m) = inr (split_in a b g m)

split_on : (a b : List Text) (g : Text) → IsIn g b → IsIn g (a ++ b)
split_on [] b g m = m
split_on (x ∷ a) b g m = inr (split_on a b g m)

below_each : (rank : Text → ℕ) (r : ℕ) (s : Set) → ((g : Text) → IsIn g (spreads_of s) → rank g < r) → SpreadsBelow rank r s
below_each rank r none h = tt
below_each rank r (field w k n a set rest) h = (below_each rank r set (λ g m. h g (split_in (spreads_of set) (spreads_of rest) g m)), below_each rank r rest (λ g m. h g (split_on (spreads_of set) (spreads_of rest) g m)))
below_each rank r (spread w f rest) h = (h f (inl refl), below_each rank r rest (λ g m. h g (inr m)))
below_each rank r (inline w on set rest) h = (below_each rank r set (λ g m. h g (split_in (spreads_of set) (spreads_of rest) g m)), below_each rank r rest (λ g m. h g (split_on (spreads_of set) (spreads_of rest) g m)))

-- a definition of that name
pub record IsNamed (ds : List Definition) (g : Text) : Type 0 where
  pub definition : Definition
  pub stands : IsIn definition ds
  pub is : g ≡ definition.name

-- each spread in the set is of a definition
abbrev pub AreDefined : List Definition → Set → Type 0
AreDefined ds s = (g : Text) → IsIn g (spreads_of s) → IsNamed ds g

abbrev pub LeadNowhereBack : List Definition → Type 0
LeadNowhereBack ds = (d : Definition) → IsIn d ds → Graph ds d.name d.name → ⊥

not_back : (ds : List Definition) → LeadNowhereBack ds → (d : Definition) → IsIn d ds → leads_through ds d.name d.name ds ≡ false
not_back ds free d m = by_test (leads_through ds d.name d.name ds) refl
  where
    by_test : (b : Bool) → leads_through ds d.name d.name ds ≡ b → b ≡ false
    by_test true e = absurd (free d m (through_sound ds ds d.name d.name e))
    by_test false e = refl

falls : (ds : List Definition) → LeadNowhereBack ds → (d : Definition) → IsIn d ds → (g : Text) → IsIn g (spreads_of d.set) → IsNamed ds g → rank_in ds g < rank_in ds d.name
falls ds free d m g s n =
    count_more (λ x. leads_through ds g x ds) (λ x. leads_through ds d.name x ds) ds n.definition n.stands
    (ap (λ z. leads_through ds z n.definition.name ds) n.is ∙ not_back ds free n.definition n.stands)
    (to n.definition.name (sym n.is))
    (λ x i h. joined ds ds n.definition n.stands d.name x.name (to n.definition.name (sym n.is)) (subst (λ z. leads_through ds z x.name ds ≡ true) n.is h))
  where
    to : (z : Text) → z ≡ g → leads_through ds d.name z ds ≡ true
    to z e = subst (λ y. leads_through ds d.name y ds ≡ true) (sym e) (further ds ds d.name g (once_there ds d g m s))

-- where no definition leads back to itself, and each spread is of a definition, they can be ranked, with the set above them
pub can_be_ranked : (ds : List Definition) (set : Set) → LeadNowhereBack ds → ((d : Definition) → IsIn d ds → AreDefined ds d.set) → AreDefined ds set → Rankable ds set
can_be_ranked ds set free each defined = (rank_in ds, ranked, below_each (rank_in ds) (length ds) set short)
  where
    ranked : IsRanked (rank_in ds) ds
    ranked = record {
      each = λ d m. below_each (rank_in ds) (rank_in ds d.name) d.set (λ g s. falls ds free d m g s (each d m g s));
      low = λ d m. count_most (λ g. leads_through ds d.name g ds) ds;
    }

    short : (g : Text) → IsIn g (spreads_of set) → rank_in ds g < length ds
    short g s = let n = defined g s in
        count_short (λ x. leads_through ds g x ds) ds n.definition n.stands (ap (λ z. leads_through ds z n.definition.name ds) n.is ∙ not_back ds free n.definition n.stands)
