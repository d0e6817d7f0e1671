-- Two values, and two sets of arguments, are identical or they are not: that is decided (section 5.3.2).
use Rattle.std.proofs.Common.{◌≡◌, ◌⊎◌, inl, inr, Bool, true, false, List, [], ◌∷◌, Option, Some, None, refl, sym, ap, ◌∙◌, subst}
use Rattle.std.specs.Str.{bytes_eq}
use Rattle.std.proofs.lemmas.Option.{same_Some}
use Rattle.gq_text.specs.declared.place.Span.{Span}
use Rattle.gq_lex.specs.Decoding.{string_at, raw_at}
use Rattle.gq_lex.specs.Values.{IsStringValue, IsBlockStringValue, block_value}
use Rattle.gq_lex.proofs.Decodings.{string_told, string_decoded, IsRaw, raw_told, raw_decoded}
use Rattle.gq_lex.proofs.Valued.{block_is}
use Rattle.gq_tree.specs.Forest.{none, more, row}
use Rattle.gq_tree.specs.Plain.{NameOf, Says, Part, Val, Vals, variable, int, float, string, boolean, null, enum, list, object}
use Rattle.gq_types.specs.Entries.{Text}
use Rattle.gq_document.specs.FieldSets.{FieldAt}
use Rattle.gq_merging.specs.SameArguments.{StandsFor, as_string, as_block_string, AreSameStrings, one_spelling, one_value, AreSame, variables, ints, floats, strings, booleans, nulls, enums, AreIdentical, same, lists, objects, AreInOrder, no_more, one_more, EachIsIn, none_is, next_is, EachHas, none_has, next_has, IsIn, is_first, is_later, HasOne, has_first, has_later, IsArgument, SameArguments}
use Rattle.gq_merging.specs.FieldsMerge.{IsSameCall}
use Rattle.gq_merging.proofs.ArgumentLemmas.{at_first, has_at_first, sets_are}
use Rattle.gq_merging.proofs.StringLemmas.{one_standing}
use Rattle.gq_meaning.proofs.TextLemmas.{same_text, text_same}

-- it is so, or it is not so
abbrev pub IsOrNot : Type 0 → Type 0
IsOrNot P = P ⊎ (P → ⊥)

if_both : {P Q R : Type 0} → IsOrNot P → IsOrNot Q → (P → Q → R) → (R → P × Q) → IsOrNot R
if_both (inl p) (inl q) f g = inl (f p q)
if_both (inl p) (inr n) f g = inr (λ r. n (g r).1)
if_both (inr n) q f g = inr (λ r. n (g r).0)

if_one : {P Q R : Type 0} → IsOrNot P → IsOrNot Q → (P → R) → (Q → R) → (R → P ⊎ Q) → IsOrNot R
if_one (inl p) q f g h = inl (f p)
if_one (inr n) (inl q) f g h = inl (g q)
if_one (inr n) (inr m) f g h = inr (λ r. elim (h r) [
  | inl p ↦ n p
  | inr q ↦ m q
])

as_well : {P R : Type 0} → IsOrNot P → (P → R) → (R → P) → IsOrNot R
as_well (inl p) f g = inl (f p)
as_well (inr n) f g = inr (λ r. n (g r))

texts_or : (a b : Text) → IsOrNot (a ≡ b)
texts_or a b = by_test (bytes_eq a b) refl
  where
    by_test : (t : Bool) → bytes_eq a b ≡ t → IsOrNot (a ≡ b)
    by_test true e = inl (same_text a b e)
    by_test false e = inr (λ s. let yes = text_same a b s in cc)

flags_or : (a b : Bool) → IsOrNot (a ≡ b)
flags_or true true = inl refl
flags_or false false = inl refl
flags_or true false = inr (λ e. cc)
flags_or false true = inr (λ e. cc)

-- what a string or block string stands for, if it is one
stands_or : (text : Text) → IsOrNot ((value : Text) × StandsFor text value)
stands_or text = by_plain (string_at text) refl
  where
    by_raw : string_at text ≡ None → (raw : Option Text) → raw_at text ≡ raw → IsOrNot ((value : Text) × StandsFor text value)
    by_raw no_string (Some raw) e = inl (block_value raw, as_block_string (block_is (block_value raw) (raw_told text raw e) refl))
    by_raw no_string None e = inr (λ s. neither s.0 s.1)
      where
        neither : (value : Text) → StandsFor text value → ⊥
        neither value (as_string h) = let found = string_decoded text value h in cc
        neither value (as_block_string h) = let found = raw_decoded text h.raw (record { body = h.body; is = h.is; characters = h.characters }) in cc

    by_plain : (plain : Option Text) → string_at text ≡ plain → IsOrNot ((value : Text) × StandsFor text value)
    by_plain (Some value) e = inl (value, as_string (string_told text value e))
    by_plain None e = by_raw e (raw_at text) refl

-- strings
strings_or : (a b : Text) → IsOrNot (AreSameStrings a b)
strings_or a b = by_spelling (texts_or a b)
  where
    by_values : (a ≡ b → ⊥) → (v w : Text) → StandsFor a v → StandsFor b w → IsOrNot (v ≡ w) → IsOrNot (AreSameStrings a b)
    by_values other v w h k (inl e) = inl (one_value v h (subst (StandsFor b) (sym e) k))
    by_values other v w h k (inr n) = inr apart
      where
        apart : AreSameStrings a b → ⊥
        apart (one_spelling e) = other e
        apart (one_value u i j) = n (one_standing a v u h i ∙ one_standing b u w j k)

    no_value : (a ≡ b → ⊥) → ((v : Text) → StandsFor a v → StandsFor b v → ⊥) → AreSameStrings a b → ⊥
    no_value other apart (one_spelling e) = other e
    no_value other apart (one_value v h k) = apart v h k

    by_standing : (a ≡ b → ⊥) → IsOrNot ((v : Text) × StandsFor a v) → IsOrNot ((v : Text) × StandsFor b v) → IsOrNot (AreSameStrings a b)
    by_standing other (inr n) right = inr (no_value other (λ v h k. n (v, h)))
    by_standing other (inl h) (inr n) = inr (no_value other (λ v i k. n (v, k)))
    by_standing other (inl h) (inl k) = by_values other h.0 k.0 h.1 k.1 (texts_or h.0 k.0)

    by_spelling : IsOrNot (a ≡ b) → IsOrNot (AreSameStrings a b)
    by_spelling (inl e) = inl (one_spelling e)
    by_spelling (inr n) = by_standing n (stands_or a) (stands_or b)

-- values that are neither lists nor input objects
one_variable : {n m : NameOf Span} {p q : Span} → AreSame (variable n p) (variable m q) → n.text ≡ m.text
one_variable (variables e) = e

one_int : {a b : Text} {p q : Span} → AreSame (int a p) (int b q) → a ≡ b
one_int (ints e) = e

one_float : {a b : Text} {p q : Span} → AreSame (float a p) (float b q) → a ≡ b
one_float (floats e) = e

one_string : {a b : Text} {p q : Span} → AreSame (string a p) (string b q) → AreSameStrings a b
one_string (strings h) = h

one_boolean : {a b : Bool} {p q : Span} → AreSame (boolean a p) (boolean b q) → a ≡ b
one_boolean (booleans e) = e

one_enum : {n m : NameOf Span} → AreSame (enum n) (enum m) → n.text ≡ m.text
one_enum (enums e) = e

same_or : (s t : Says Span) → IsOrNot (AreSame s t)
same_or (variable n p) (variable m q) = as_well (texts_or n.text m.text) (λ e. variables e) (λ h. one_variable h)
same_or (int a p) (int b q) = as_well (texts_or a b) (λ e. ints e) (λ h. one_int h)
same_or (float a p) (float b q) = as_well (texts_or a b) (λ e. floats e) (λ h. one_float h)
same_or (string a p) (string b q) = as_well (strings_or a b) (λ e. strings e) (λ h. one_string h)
same_or (boolean a p) (boolean b q) = as_well (flags_or a b) (λ e. booleans e) (λ h. one_boolean h)
same_or (null p) (null q) = inl nulls
same_or (enum n) (enum m) = as_well (texts_or n.text m.text) (λ e. enums e) (λ h. one_enum h)
same_or _ _ = inr (λ h. elim h [ ])

-- what is known of a row of values, against any other
record IsSettled (b : Vals Span) : Type 0 where
  order_or : (c : Vals Span) → IsOrNot (AreInOrder b c)
  is_in_or : (c : Vals Span) → IsOrNot (EachIsIn b c)
  has_or : (m : Part Span) (c : Vals Span) → IsOrNot (HasOne b m c)

has_each_or : (b : Vals Span) → IsSettled b → (c : Vals Span) → IsOrNot (EachHas b c)
has_each_or b i none = inl none_has
has_each_or b i (more m c s) = if_both (i.has_or m c) (has_each_or b i s) (λ h k. next_has h k) (λ h. parts h)
  where
    parts : EachHas b (more m c s) → HasOne b m c × EachHas b s
    parts (next_has h k) = (h, k)

-- two values, where the rows in the first are settled
abbrev is_list : Says Span → Bool
is_list (list p) = true
is_list _ = false

abbrev is_object : Says Span → Bool
is_object (object p) = true
is_object _ = false

abbrev is_leaf : Says Span → Bool
is_leaf (list p) = false
is_leaf (object p) = false
is_leaf _ = true

list_needs : {p : Span} {t : Says Span} {b c : Vals Span} → AreIdentical (list p) b t c → is_list t ≡ true
list_needs (same h) = elim h [ ]
list_needs (lists h) = refl

object_needs : {p : Span} {t : Says Span} {b c : Vals Span} → AreIdentical (object p) b t c → is_object t ≡ true
object_needs (same h) = elim h [ ]
object_needs (objects h k) = refl

leaf_needs : {s t : Says Span} {b c : Vals Span} → AreIdentical s b t c → is_leaf s ≡ true → AreSame s t
leaf_needs (same h) e = h
leaf_needs (lists h) e = absurd (cc)
leaf_needs (objects h k) e = absurd (cc)

one_order : {p q : Span} {b c : Vals Span} → AreIdentical (list p) b (list q) c → AreInOrder b c
one_order (same h) = elim h [ ]
one_order (lists h) = h

one_set : {p q : Span} {b c : Vals Span} → AreIdentical (object p) b (object q) c → EachIsIn b c × EachHas b c
one_set (same h) = elim h [ ]
one_set (objects h k) = (h, k)

identical_or : (s : Says Span) (b : Vals Span) → IsSettled b → (t : Says Span) (c : Vals Span) → IsOrNot (AreIdentical s b t c)
identical_or (list p) b i (list q) c = as_well (i.order_or c) (λ h. lists h) (λ h. one_order h)
identical_or (list p) b i t c = inr (λ h. let e = list_needs h in cc)
identical_or (object p) b i (object q) c = if_both (i.is_in_or c) (has_each_or b i c) (λ h k. objects h k) (λ h. one_set h)
identical_or (object p) b i t c = inr (λ h. let e = object_needs h in cc)
identical_or s b i t c = as_well (same_or s t) (λ h. same h) (λ h. leaf_needs h refl)

-- entries
abbrev val : Part Span → Vals Span → Val Span
val l b = record { label = l; below = b }

abbrev Compares : Part Span → Vals Span → Type 0
Compares l b = (t : Says Span) (c : Vals Span) → IsOrNot (AreIdentical l.says b t c)

argument_or : (l : Part Span) (b : Vals Span) → Compares l b → (m : Part Span) (c : Vals Span) → IsOrNot (IsArgument (val l b) (val m c))
argument_or l b compare m c = by_keys l.key m.key refl refl
  where
    by_keys : (left right : Option (NameOf Span)) → l.key ≡ left → m.key ≡ right → IsOrNot (IsArgument (val l b) (val m c))
    by_keys (Some k) (Some n) e f =
        if_both (texts_or k.text n.text) (compare m.says c) (λ names value. record { name = k; other = n; is = e; other_is = f; one_name = names; one_value = value })
        (λ r. (ap (λ (x : NameOf Span). x.text) (same_Some k r.name (sym e ∙ r.is)) ∙ r.one_name ∙ ap (λ (x : NameOf Span). x.text) (same_Some r.other n (sym r.other_is ∙ f)), r.one_value))
    by_keys None right e f = inr (λ r. let s = r.is in cc)
    by_keys (Some k) None e f = inr (λ r. let s = r.other_is in cc)

in_cases : {l m : Part Span} {b c s : Vals Span} → IsIn l b (more m c s) → IsArgument (val l b) (val m c) ⊎ IsIn l b s
in_cases (is_first {k} {n} e h) = inl (record { name = k; other = n; is = refl; other_is = refl; one_name = e; one_value = h })
in_cases (is_later h) = inr h

has_cases : {l m : Part Span} {b c r : Vals Span} → HasOne (more l b r) m c → IsArgument (val l b) (val m c) ⊎ HasOne r m c
has_cases (has_first {k} {n} e h) = inl (record { name = k; other = n; is = refl; other_is = refl; one_name = e; one_value = h })
has_cases (has_later h) = inr h

none_in : {l : Part Span} {b c : Vals Span} → IsIn l b c → c ≡ none → ⊥
none_in (is_first e h) q = cc
none_in (is_later h) q = cc

in_or : (l : Part Span) (b : Vals Span) → Compares l b → (c : Vals Span) → IsOrNot (IsIn l b c)
in_or l b compare none = inr (λ h. none_in h refl)
in_or l b compare (more m c s) = if_one (argument_or l b compare m c) (in_or l b compare s) (λ h. at_first (val l b) (val m c) s h) (λ h. is_later h) (λ h. in_cases h)

-- rows of values
no_values : IsSettled none
no_values = record {
  order_or = λ c. by c;
  is_in_or = λ c. inl none_is;
  has_or = λ m c. inr (λ h. elim h [ ]);
}
  where
    by : (c : Vals Span) → IsOrNot (AreInOrder none c)
    by none = inl no_more
    by (more m c s) = inr (λ h. elim h [ ])

more_values : (l : Part Span) (b r : Vals Span) → Compares l b → IsSettled r → IsSettled (more l b r)
more_values l b r compare i = record {
  order_or = λ c. by c;
  is_in_or = λ c. if_both (in_or l b compare c) (i.is_in_or c) (λ h k. next_is h k) (λ h. parts h);
  has_or = λ m c. if_one (argument_or l b compare m c) (i.has_or m c) (λ h. has_at_first (val l b) (val m c) r h) (λ h. has_later h) (λ h. has_cases h);
}
  where
    pairs : {m : Part Span} {c s : Vals Span} → AreInOrder (more l b r) (more m c s) → AreIdentical l.says b m.says c × AreInOrder r s
    pairs (one_more h k) = (h, k)

    parts : {c : Vals Span} → EachIsIn (more l b r) c → IsIn l b c × EachIsIn r c
    parts (next_is h k) = (h, k)

    by : (c : Vals Span) → IsOrNot (AreInOrder (more l b r) c)
    by none = inr (λ h. elim h [ ])
    by (more m c s) = if_both (compare m.says c) (i.order_or s) (λ h k. one_more h k) (λ h. pairs h)

settled : (b : Vals Span) → IsSettled b
settled none = no_values
settled (more l b r) = more_values l b r (λ t c. identical_or l.says b (settled b) t c) (settled r)

-- sets of arguments, and calls
arguments_or : (xs ys : List (Val Span)) → IsOrNot (SameArguments xs ys)
arguments_or xs ys =
    let i = settled (row xs) in
    as_well (if_both (i.is_in_or (row ys)) (has_each_or (row xs) i (row ys)) (λ h k. (h, k)) (λ h. h)) (λ h. (sets_are xs ys).0 h) (λ h. (sets_are xs ys).1 h)

pub same_call_or : (a b : FieldAt) → IsOrNot (IsSameCall a b)
same_call_or a b =
    if_both (texts_or a.name.text b.name.text) (arguments_or a.arguments b.arguments) (λ e h. record { one_name = e; same_arguments = h }) (λ h. (h.one_name, h.same_arguments))
