-- What is identical is so the other way round, and through a third: strings, values, and sets of arguments.
use Rattle.std.proofs.Common.{◌≡◌, List, Some, refl, sym, ◌∙◌, ap, subst}
use Rattle.std.proofs.lemmas.Option.{same_Some}
use Rattle.gq_text.specs.declared.place.Span.{Span}
use Rattle.gq_tree.specs.Plain.{NameOf, Says, Part, Val, Vals}
use Rattle.gq_types.specs.Entries.{Text}
use Rattle.gq_merging.specs.SameArguments.{StandsFor, AreSameStrings, one_spelling, one_value, AreSame, variables, ints, floats, strings, booleans, nulls, enums, AreIdentical, same, lists, objects, AreInOrder, no_more, one_more, EachIsIn, none_is, next_is, EachHas, none_has, next_has, IsIn, is_first, is_later, HasOne, has_first, has_later, IsArgument, SameArguments}
use Rattle.gq_merging.proofs.ArgumentLemmas.{at_first, has_at_first}
use Rattle.gq_merging.proofs.StringLemmas.{one_standing}

-- strings
pub strings_back : (a b : Text) → AreSameStrings a b → AreSameStrings b a
strings_back a b (one_spelling e) = one_spelling (sym e)
strings_back a b (one_value v h k) = one_value v k h

pub strings_through : (a b c : Text) → AreSameStrings a b → AreSameStrings b c → AreSameStrings a c
strings_through a b c (one_spelling e) s = subst (λ x. AreSameStrings x c) (sym e) s
strings_through a b c (one_value v h k) (one_spelling e) = one_value v h (subst (λ x. StandsFor x v) e k)
strings_through a b c (one_value v h k) (one_value w i j) = one_value v h (subst (StandsFor c) (one_standing b w v i k) j)

-- values that are neither lists nor input objects
same_back : {s t : Says Span} → AreSame s t → AreSame t s
same_back (variables e) = variables (sym e)
same_back (ints e) = ints (sym e)
same_back (floats e) = floats (sym e)
same_back (strings {s} {t} h) = strings (strings_back s t h)
same_back (booleans e) = booleans (sym e)
same_back nulls = nulls
same_back (enums e) = enums (sym e)

same_through : {s t u : Says Span} → AreSame s t → AreSame t u → AreSame s u
same_through (variables e) (variables f) = variables (e ∙ f)
same_through (ints e) (ints f) = ints (e ∙ f)
same_through (floats e) (floats f) = floats (e ∙ f)
same_through (strings {s} {t} h) (strings {t = u} k) = strings (strings_through s t u h k)
same_through (booleans e) (booleans f) = booleans (e ∙ f)
same_through nulls nulls = nulls
same_through (enums e) (enums f) = enums (e ∙ f)

-- values the other way round
mutual
  pub identical_back : {s t : Says Span} {b c : Vals Span} → AreIdentical s b t c → AreIdentical t c s b
  identical_back (same h) = same (same_back h)
  identical_back (lists h) = lists (order_back h)
  identical_back (objects h k) = objects (has_back k) (is_back h)

  order_back : {b c : Vals Span} → AreInOrder b c → AreInOrder c b
  order_back no_more = no_more
  order_back (one_more h k) = one_more (identical_back h) (order_back k)

  is_back : {b c : Vals Span} → EachIsIn b c → EachHas c b
  is_back none_is = none_has
  is_back (next_is h k) = next_has (in_back h) (is_back k)

  has_back : {b c : Vals Span} → EachHas b c → EachIsIn c b
  has_back none_has = none_is
  has_back (next_has h k) = next_is (one_back h) (has_back k)

  in_back : {l : Part Span} {b c : Vals Span} → IsIn l b c → HasOne c l b
  in_back (is_first e h) = has_first (sym e) (identical_back h)
  in_back (is_later h) = has_later (in_back h)

  one_back : {b : Vals Span} {m : Part Span} {c : Vals Span} → HasOne b m c → IsIn m c b
  one_back (has_first e h) = is_first (sym e) (identical_back h)
  one_back (has_later h) = is_later (one_back h)

-- entries: one is in a row as another is, if it is identical to all that the other is identical to
abbrev entry : NameOf Span → Says Span → Vals Span → Val Span
entry k l b = record { label = record { key = Some k; says = l }; below = b }

one_entry : (k n : NameOf Span) (l m : Says Span) (b c : Vals Span) → k.text ≡ n.text → AreIdentical l b m c → IsArgument (entry k l b) (entry n m c)
one_entry k n l m b c e h = record { name = k; other = n; is = refl; other_is = refl; one_name = e; one_value = h }

joined : (a b c : Val Span) → IsArgument a b → IsArgument b c → AreIdentical a.label.says a.below c.label.says c.below → IsArgument a c
joined a b c h k same_value = record {
  name = h.name;
  other = k.other;
  is = h.is;
  other_is = k.other_is;
  one_name = h.one_name ∙ ap (λ (n : NameOf Span). n.text) (same_Some h.other k.name (sym h.other_is ∙ k.is)) ∙ k.one_name;
  one_value = same_value;
}

in_as : {m : Part Span} {c d : Vals Span} → IsIn m c d → (a : Val Span) → ((y : Val Span) → IsArgument (record { label = m; below = c }) y → IsArgument a y) → IsIn a.label a.below d
in_as (is_first {k} {n} {l} {m} {b} {c} {s} e h) a f = at_first a (entry n m c) s (f (entry n m c) (one_entry k n l m b c e h))
in_as (is_later h) a f = is_later (in_as h a f)

each_as : {b c d : Vals Span} → ((y : Part Span) (e : Vals Span) → HasOne c y e → HasOne b y e) → EachHas c d → EachHas b d
each_as f none_has = none_has
each_as f (next_has {m} {c = e} h k) = next_has (f m e h) (each_as f k)

-- values through a third one
mutual
  pub identical_through : {s t u : Says Span} {b c d : Vals Span} → AreIdentical s b t c → AreIdentical t c u d → AreIdentical s b u d
  identical_through (same h) (same k) = same (same_through h k)
  identical_through (same h) (lists k) = elim h [ ]
  identical_through (same h) (objects k l) = elim h [ ]
  identical_through (lists h) (same k) = elim k [ ]
  identical_through (lists h) (lists k) = lists (order_through h k)
  identical_through (objects h i) (same k) = elim k [ ]
  identical_through (objects h i) (objects k l) = objects (is_through h k) (each_as (λ y e j. has_through i j) l)

  order_through : {b c d : Vals Span} → AreInOrder b c → AreInOrder c d → AreInOrder b d
  order_through no_more no_more = no_more
  order_through (one_more h k) (one_more i j) = one_more (identical_through h i) (order_through k j)

  is_through : {b c d : Vals Span} → EachIsIn b c → EachIsIn c d → EachIsIn b d
  is_through none_is k = none_is
  is_through (next_is h i) k = next_is (in_through h k) (is_through i k)

  has_through : {b c : Vals Span} {y : Part Span} {e : Vals Span} → EachHas b c → HasOne c y e → HasOne b y e
  has_through none_has j = elim j [ ]
  has_through (next_has h i) (has_first {k} {n} {l} {m} {b} {c} e j) = one_through h (entry n m c) (one_entry k n l m b c e j)
  has_through (next_has h i) (has_later j) = has_through i j

  in_through : {l : Part Span} {b c d : Vals Span} → IsIn l b c → EachIsIn c d → IsIn l b d
  in_through (is_first {k} {n} {l} {m} {b} {c} e h) (next_is i j) =
      in_as i (entry k l b) (λ y q. joined (entry k l b) (entry n m c) y (one_entry k n l m b c e h) q (identical_through h q.one_value))
  in_through (is_later h) (next_is i j) = in_through h j

  one_through : {b : Vals Span} {m : Part Span} {c : Vals Span} → HasOne b m c → (y : Val Span) → IsArgument (record { label = m; below = c }) y → HasOne b y.label y.below
  one_through (has_first {k} {n} {l} {m} {b} {c} {r} e h) y q =
      has_at_first (entry k l b) y r (joined (entry k l b) (entry n m c) y (one_entry k n l m b c e h) q (identical_through h q.one_value))
  one_through (has_later h) y q = has_later (one_through h y q)

-- arguments
argument_back : (a b : Val Span) → IsArgument a b → IsArgument b a
argument_back a b h = record { name = h.other; other = h.name; is = h.other_is; other_is = h.is; one_name = sym h.one_name; one_value = identical_back h.one_value }

argument_through : (a b c : Val Span) → IsArgument a b → IsArgument b c → IsArgument a c
argument_through a b c h k = joined a b c h k (identical_through h.one_value k.one_value)

pub arguments_back : (xs ys : List (Val Span)) → SameArguments xs ys → SameArguments ys xs
arguments_back xs ys s = record {
  given = λ a k. let q = s.others a k in (q.0, q.1, argument_back q.0 a q.2);
  others = λ b k. let q = s.given b k in (q.0, q.1, argument_back b q.0 q.2);
}

pub arguments_through : (xs ys zs : List (Val Span)) → SameArguments xs ys → SameArguments ys zs → SameArguments xs zs
arguments_through xs ys zs s t = record {
  given = λ a k. let q = s.given a k in let r = t.given q.0 q.1 in (r.0, r.1, argument_through a q.0 r.0 q.2 r.2);
  others = λ b k. let q = t.others b k in let r = s.others q.0 q.1 in (r.0, r.1, argument_through r.0 q.0 b r.2 q.2);
}
