-- Identical arguments stay identical where places change.
use Rattle.std.proofs.Common.{◌≡◌, List, Option, Some, None, refl, sym, ap, subst, ◌∙◌}
use Rattle.std.specs.Option.{option_map}
use Rattle.gq_text.specs.declared.place.Span.{Span}
use Rattle.gq_tree.specs.Forest.{none, more, relabel}
use Rattle.gq_tree.specs.Plain.{NameOf, Says, Part, Val, Vals, variable, int, float, string, boolean, null, enum, list, object, place_name, place_says, place_part, place_value, no_place, erase_values}
use Rattle.gq_merging.specs.SameArguments.{AreSame, variables, ints, floats, strings, booleans, nulls, enums, AreSameStrings, AreIdentical, same, lists, objects, AreInOrder, no_more, one_more, EachIsIn, none_is, next_is, EachHas, none_has, next_has, IsIn, is_first, is_later, HasOne, has_first, has_later, IsArgument, SameArguments}
use Rattle.gq_merging.proofs.ArgumentLemmas.{at_first, has_at_first}
use Rattle.gq_types.proofs.Placing.Alike.{contains}

-- what is said, and values in a row, that are equal but for places
abbrev SayAlike : Says Span → Says Span → Type 0
SayAlike s t = place_says (no_place {P = Span}) s ≡ place_says no_place t

abbrev RowsAlike : Vals Span → Vals Span → Type 0
RowsAlike b c = relabel (place_part (no_place {P = Span})) b ≡ relabel (place_part no_place) c

abbrev PartsAlike : Part Span → Part Span → Type 0
PartsAlike l m = place_part (no_place {P = Span}) l ≡ place_part no_place m

texts : (n m : NameOf Span) → place_name (no_place {P = Span}) n ≡ place_name no_place m → n.text ≡ m.text
texts n m e = ap (λ z. z.text) e

-- the name of an entry
keyed : (k : NameOf Span) (o : Option (NameOf Span)) → option_map (place_name (no_place {P = Span})) (Some k) ≡ option_map (place_name no_place) o → (n : NameOf Span) × (o ≡ Some n) × (k.text ≡ n.text)
keyed k None e = absurd (cc)
keyed k (Some n) e = (n, refl, texts k n (cc))

-- values that are neither lists nor input objects
same_alike : {s t : Says Span} → AreSame s t → (v w : Says Span) → SayAlike s v → SayAlike t w → AreSame v w
same_alike (variables {n} {m} {p} {q} e) (variable k a) (variable o b) d f = variables (sym (texts n k (cc)) ∙ e ∙ texts m o (cc))
same_alike (variables {n} {m} {p} {q} e) _ _ d f = absurd (cc)
same_alike (ints {s} {t} {p} {q} e) (int k a) (int o b) d f = ints (let h : k ≡ o = cc in h)
same_alike (ints {s} {t} {p} {q} e) _ _ d f = absurd (cc)
same_alike (floats {s} {t} {p} {q} e) (float k a) (float o b) d f = floats (let h : k ≡ o = cc in h)
same_alike (floats {s} {t} {p} {q} e) _ _ d f = absurd (cc)
same_alike (strings {s} {t} {p} {q} e) (string k a) (string o b) d f =
    let left : s ≡ k = cc in
    let right : t ≡ o = cc in
    strings (subst (λ z. AreSameStrings k z) right (subst (λ z. AreSameStrings z t) left e))
same_alike (strings {s} {t} {p} {q} e) _ _ d f = absurd (cc)
same_alike (booleans {a = s} {b = t} {p} {q} e) (boolean k a) (boolean o b) d f = booleans (let h : k ≡ o = cc in h)
same_alike (booleans {a = s} {b = t} {p} {q} e) _ _ d f = absurd (cc)
same_alike (nulls {p} {q}) (null a) (null b) d f = nulls
same_alike (nulls {p} {q}) _ _ d f = absurd (cc)
same_alike (enums {n} {m} e) (enum k) (enum o) d f = enums (sym (texts n k (cc)) ∙ e ∙ texts m o (cc))
same_alike (enums {n} {m} e) _ _ d f = absurd (cc)

-- the parts of a row
abbrev SplitAlike : (l : Part Span) (b r : Vals Span) (m : Part Span) (c s : Vals Span) → Type 0
SplitAlike l b r m c s = PartsAlike l m × RowsAlike b c × RowsAlike r s

split : (l : Part Span) (b r : Vals Span) (m : Part Span) (c s : Vals Span) → RowsAlike (more l b r) (more m c s) → SplitAlike l b r m c s
split l b r m c s e = (cc, cc, cc)

-- one entry
abbrev entry : Part Span → Vals Span → Val Span
entry l b = record { label = l; below = b }

one_entry : (k n : NameOf Span) (x y : Val Span) → option_map (place_name (no_place {P = Span})) (Some k) ≡ option_map (place_name no_place) x.label.key →
    option_map (place_name (no_place {P = Span})) (Some n) ≡ option_map (place_name no_place) y.label.key → k.text ≡ n.text → AreIdentical x.label.says x.below y.label.says y.below → IsArgument x y
one_entry k n x y d f e h =
    let i = keyed k x.label.key d in
    let j = keyed n y.label.key f in
    record { name = i.0; other = j.0; is = i.1; other_is = j.1; one_name = sym i.2 ∙ e ∙ j.2; one_value = h }

mutual
  identical_alike : {s t : Says Span} {b c : Vals Span} → AreIdentical s b t c → (v w : Says Span) (d e : Vals Span) → SayAlike s v → RowsAlike b d → SayAlike t w → RowsAlike c e → AreIdentical v d w e
  identical_alike (same h) v w d e p q r u = same (same_alike h v w p r)
  identical_alike (lists {p} {q} h) (list m) (list n) d e f g i j = lists (order_alike h d e g j)
  identical_alike (lists {p} {q} h) _ _ d e f g i j = absurd (cc)
  identical_alike (objects {p} {q} h k) (object m) (object n) d e f g i j = objects (is_alike h d e g j) (has_alike k d e g j)
  identical_alike (objects {p} {q} h k) _ _ d e f g i j = absurd (cc)

  order_alike : {b c : Vals Span} → AreInOrder b c → (d e : Vals Span) → RowsAlike b d → RowsAlike c e → AreInOrder d e
  order_alike no_more none none f g = no_more
  order_alike no_more _ _ f g = absurd (cc)
  order_alike (one_more {l} {m} {b} {c} {r} {s} h k) (more o d t) (more n e u) f g =
      let left = split l b r o d t f in
      let right = split m c s n e u g in
      one_more (identical_alike h o.says n.says d e (ap (λ z. z.says) left.0) left.1 (ap (λ z. z.says) right.0) right.1) (order_alike k t u left.2 right.2)
  order_alike (one_more h k) _ _ f g = absurd (cc)

  is_alike : {b c : Vals Span} → EachIsIn b c → (d e : Vals Span) → RowsAlike b d → RowsAlike c e → EachIsIn d e
  is_alike none_is none e f g = none_is
  is_alike none_is (more o d t) e f g = absurd (cc)
  is_alike (next_is h k) none e f g = absurd (cc)
  is_alike (next_is {l} {b} {r} {c} h k) (more o d t) e f g =
      let left = split l b r o d t f in
      next_is (in_alike h o d e left.0 left.1 g) (is_alike k t e left.2 g)

  has_alike : {b c : Vals Span} → EachHas b c → (d e : Vals Span) → RowsAlike b d → RowsAlike c e → EachHas d e
  has_alike none_has d none f g = none_has
  has_alike none_has d (more n e u) f g = absurd (cc)
  has_alike (next_has h k) d none f g = absurd (cc)
  has_alike (next_has {m} {b} {c} {s} h k) d (more n e u) f g =
      let right = split m c s n e u g in
      next_has (one_alike h n d e right.0 f right.1) (has_alike k d u f right.2)

  in_alike : {l : Part Span} {b c : Vals Span} → IsIn l b c → (o : Part Span) (d e : Vals Span) → PartsAlike l o → RowsAlike b d → RowsAlike c e → IsIn o d e
  in_alike (is_first names h) o d none f g i = absurd (cc)
  in_alike (is_first {k} {n} {l} {m} {b} {c} {s} names h) o d (more w e u) f g i =
      let right = split (record { key = Some n; says = m }) c s w e u i in
      let one = identical_alike h o.says w.says d e (ap (λ z. z.says) f) g (ap (λ z. z.says) right.0) right.1 in
      at_first (entry o d) (entry w e) u (one_entry k n (entry o d) (entry w e) (ap (λ z. z.key) f) (ap (λ z. z.key) right.0) names one)
  in_alike (is_later h) o d none f g i = absurd (cc)
  in_alike (is_later {l} {m} {b} {c} {s} h) o d (more w e u) f g i =
      let right = split m c s w e u i in
      is_later (in_alike h o d u f g right.2)

  one_alike : {b : Vals Span} {m : Part Span} {c : Vals Span} → HasOne b m c → (w : Part Span) (d e : Vals Span) → PartsAlike m w → RowsAlike b d → RowsAlike c e → HasOne d w e
  one_alike (has_first names h) w none e f g i = absurd (cc)
  one_alike (has_first {k} {n} {l} {m} {b} {c} {r} names h) w (more o d t) e f g i =
      let left = split (record { key = Some k; says = l }) b r o d t g in
      let one = identical_alike h o.says w.says d e (ap (λ z. z.says) left.0) left.1 (ap (λ z. z.says) f) i in
      has_at_first (entry o d) (entry w e) t (one_entry k n (entry o d) (entry w e) (ap (λ z. z.key) left.0) (ap (λ z. z.key) f) names one)
  one_alike (has_later h) w none e f g i = absurd (cc)
  one_alike (has_later {l} {m} {b} {c} {r} h) w (more o d t) e f g i =
      let left = split l b r o d t g in
      has_later (one_alike h w t e f left.2 i)

-- arguments
argument_alike : (a b c d : Val Span) → place_value (no_place {P = Span}) a ≡ place_value no_place c → place_value (no_place {P = Span}) b ≡ place_value no_place d → IsArgument a b → IsArgument c d
argument_alike a b c d e f h =
    let left : PartsAlike a.label c.label = ap (λ z. z.label) e in
    let right : PartsAlike b.label d.label = ap (λ z. z.label) f in
    one_entry h.name h.other c d
    (ap (option_map (place_name no_place)) (sym h.is) ∙ ap (λ z. z.key) left) (ap (option_map (place_name no_place)) (sym h.other_is) ∙ ap (λ z. z.key) right)
    h.one_name
    (identical_alike h.one_value c.label.says d.label.says c.below d.below (ap (λ z. z.says) left) (ap (λ z. z.below) e) (ap (λ z. z.says) right) (ap (λ z. z.below) f))

pub arguments_alike : (xs ys us vs : List (Val Span)) → erase_values xs ≡ erase_values us → erase_values ys ≡ erase_values vs → SameArguments xs ys → SameArguments us vs
arguments_alike xs ys us vs e f s = record {
  given = λ a k.
      let p = contains (place_value no_place) us xs (sym e) a k in
      let q = s.given p.0 p.1 in
      let r = contains (place_value no_place) ys vs f q.0 q.1 in
      (r.0, r.1, argument_alike p.0 q.0 a r.0 (sym p.2) r.2 q.2);
  others = λ b k.
      let p = contains (place_value no_place) vs ys (sym f) b k in
      let q = s.others p.0 p.1 in
      let r = contains (place_value no_place) xs us e q.0 q.1 in
      (r.0, r.1, argument_alike q.0 p.0 r.0 b r.2 (sym p.2) q.2);
}
