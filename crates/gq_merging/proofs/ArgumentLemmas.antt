-- The entries of input objects and arguments, as sets.
use Rattle.std.proofs.Common.{◌≡◌, ◌↔◌, ⊎_elim, List, [], ◌∷◌, Option, Some, refl, sym, ap, subst, Contains}
use Rattle.gq_names.proofs.RepeatLemmas.{contains_none, contains_later, contains_first, contains_cases}
use Rattle.gq_text.specs.declared.place.Span.{Span}
use Rattle.gq_tree.specs.Forest.{none, more, row}
use Rattle.gq_tree.specs.Plain.{NameOf, Part, Val, Vals}
use Rattle.gq_merging.specs.SameArguments.{EachIsIn, none_is, next_is, EachHas, none_has, next_has, IsIn, is_first, is_later, HasOne, has_first, has_later, IsArgument, SameArguments}
use Rattle.gq_merging.specs.Helping.Marks.{IsAmong}

-- the first tree of a row, and the others
abbrev first_of : Val Span → Vals Span → Val Span
first_of d none = d
first_of d (more l b r) = record { label = l; below = b }

abbrev rest_of : Vals Span → Vals Span
rest_of none = none
rest_of (more l b r) = r

-- from an entry in a row to an argument of a list, and back
in_list : {x : Part Span} {b f : Vals Span} → IsIn x b f → (ts : List (Val Span)) → f ≡ row ts → IsAmong (record { label = x; below = b }) ts
in_list (is_first {k} {n} {l} {m} {b} {c} {s} names same) [] e = absurd (cc)
in_list (is_first {k} {n} {l} {m} {b} {c} {s} names same) (t ∷ ts) e =
    let found : Val Span = record { label = record { key = Some n; says = m }; below = c } in
    (found, contains_first t ts found (ap (first_of t) (sym e)), record { name = k; other = n; is = refl; other_is = refl; one_name = names; one_value = same })
in_list (is_later h) [] e = absurd (cc)
in_list (is_later h) (t ∷ ts) e = let q = in_list h ts (ap rest_of e) in (q.0, contains_later t ts q.0 q.1, q.2)

keyed : (p : Part Span) (n : NameOf Span) → p.key ≡ Some n → p ≡ record { key = Some n; says = p.says }
keyed p n e = ap (λ (k : Option (NameOf Span)). let q : Part Span = record { key = k; says = p.says } in q) e

pub at_first : (a b : Val Span) (s : Vals Span) → IsArgument a b → IsIn a.label a.below (more b.label b.below s)
at_first a b s i =
    subst (λ p. IsIn p a.below (more b.label b.below s)) (sym (keyed a.label i.name i.is))
    (subst (λ q. IsIn (record { key = Some i.name; says = a.label.says }) a.below (more q b.below s)) (sym (keyed b.label i.other i.other_is)) (is_first i.one_name i.one_value))

in_row : (a : Val Span) (ts : List (Val Span)) (b : Val Span) → Contains ts b → IsArgument a b → IsIn a.label a.below (row ts)
in_row a [] b c i = absurd (contains_none b c)
in_row a (t ∷ ts) b c i = ⊎_elim (λ e. subst (λ z. IsIn a.label a.below (more z.label z.below (row ts))) (sym e) (at_first a b (row ts) i)) (λ later. is_later (in_row a ts b later i)) (contains_cases t ts b c)

-- the same from the second side
has_list : {y : Part Span} {f c : Vals Span} → HasOne f y c → (ts : List (Val Span)) → f ≡ row ts → (a : Val Span) × Contains ts a × IsArgument a (record { label = y; below = c })
has_list (has_first {k} {n} {l} {m} {b} {c} {r} names same) [] e = absurd (cc)
has_list (has_first {k} {n} {l} {m} {b} {c} {r} names same) (t ∷ ts) e =
    let found : Val Span = record { label = record { key = Some k; says = l }; below = b } in
    (found, contains_first t ts found (ap (first_of t) (sym e)), record { name = k; other = n; is = refl; other_is = refl; one_name = names; one_value = same })
has_list (has_later h) [] e = absurd (cc)
has_list (has_later h) (t ∷ ts) e = let q = has_list h ts (ap rest_of e) in (q.0, contains_later t ts q.0 q.1, q.2)

pub has_at_first : (a b : Val Span) (r : Vals Span) → IsArgument a b → HasOne (more a.label a.below r) b.label b.below
has_at_first a b r i =
    subst (λ p. HasOne (more p a.below r) b.label b.below) (sym (keyed a.label i.name i.is))
    (subst (λ q. HasOne (more (record { key = Some i.name; says = a.label.says }) a.below r) q b.below) (sym (keyed b.label i.other i.other_is)) (has_first i.one_name i.one_value))

has_row : (b : Val Span) (ts : List (Val Span)) (a : Val Span) → Contains ts a → IsArgument a b → HasOne (row ts) b.label b.below
has_row b [] a c i = absurd (contains_none a c)
has_row b (t ∷ ts) a c i = ⊎_elim (λ e. subst (λ z. HasOne (more z.label z.below (row ts)) b.label b.below) (sym e) (has_at_first a b (row ts) i)) (λ later. has_later (has_row b ts a later i)) (contains_cases t ts a c)

-- each of a list
each_in : (ts : List (Val Span)) (c : Vals Span) → EachIsIn (row ts) c → (a : Val Span) → Contains ts a → IsIn a.label a.below c
each_in [] c h a k = absurd (contains_none a k)
each_in (t ∷ ts) c (next_is i h) a k = ⊎_elim (λ e. subst (λ z. IsIn z.label z.below c) e i) (λ later. each_in ts c h a later) (contains_cases t ts a k)

in_each : (ts : List (Val Span)) (c : Vals Span) → ((a : Val Span) → Contains ts a → IsIn a.label a.below c) → EachIsIn (row ts) c
in_each [] c h = none_is
in_each (t ∷ ts) c h = next_is (h t (contains_first t ts t refl)) (in_each ts c (λ a k. h a (contains_later t ts a k)))

each_has : (b : Vals Span) (ts : List (Val Span)) → EachHas b (row ts) → (y : Val Span) → Contains ts y → HasOne b y.label y.below
each_has b [] h y k = absurd (contains_none y k)
each_has b (t ∷ ts) (next_has i h) y k = ⊎_elim (λ e. subst (λ z. HasOne b z.label z.below) e i) (λ later. each_has b ts h y later) (contains_cases t ts y k)

has_each : (b : Vals Span) (ts : List (Val Span)) → ((y : Val Span) → Contains ts y → HasOne b y.label y.below) → EachHas b (row ts)
has_each b [] h = none_has
has_each b (t ∷ ts) h = next_has (h t (contains_first t ts t refl)) (has_each b ts (λ y k. h y (contains_later t ts y k)))

-- entries in a row are one set exactly if they are as arguments
pub sets_are : (xs ys : List (Val Span)) → (EachIsIn (row xs) (row ys) × EachHas (row xs) (row ys)) ↔ SameArguments xs ys
sets_are xs ys = (
  (λ h. record {
    given = λ a k. in_list (each_in xs (row ys) h.0 a k) ys refl;
    others = λ b k. has_list (each_has (row xs) ys h.1 b k) xs refl;
  }),
  (λ s. (
    in_each xs (row ys) (λ a k. let q = s.given a k in in_row a ys q.0 q.1 q.2),
    has_each (row xs) ys (λ b k. let q = s.others b k in has_row b xs q.0 q.1 q.2),
  )),
)
