-- Identical values, one kind after the other, and lists item by item.
use Rattle.std.proofs.Common.{◌≡◌, ◌≢◌, ◌↔◌, ℕ, zero, suc, ◌+◌, ◌<◌, ◌≤◌, Bool, true, false, IsTrue, List, [], ◌∷◌, length, map, drop, get_or, refl, sym, ◌∙◌, ap, subst, arith, Vec, Global}
use Rattle.std.specs.Bool.{beq}
use Rattle.std.specs.Str.{bytes_eq}
use Rattle.std.specs.Cmp.Lexicographic.{bytes_decides}
use Rattle.std.proofs.lemmas.List.{drop_more}
use Rattle.gq_text.specs.declared.place.Span.{Span}
use Rattle.gq_tree.specs.Forest.{none, more, row}
use Rattle.gq_tree.specs.Plain.{NameOf, Says, Part, Val, Vals, variable, int, float, string, boolean, null, enum, list, object}
use Rattle.gq_tree.specs.Views.{value_step, entry_step, value_view, values_view, entry_view, entries_view}
use Rattle.gq_tree.specs.declared.tree.Name.{Name}
use Rattle.gq_tree.specs.declared.value.Literal.{Literal}
use Rattle.gq_tree.specs.declared.value.Variable.{Variable}
use Rattle.gq_tree.specs.declared.value.Value.{Value}
use Rattle.gq_tree.specs.declared.value.ObjectField.{ObjectField}
use Rattle.gq_tree.specs.declared.value.Value.TheOpen.{Value-F}
use Rattle.gq_tree.specs.declared.value.Value.TheVariants as kind
use Rattle.gq_tree.specs.declared.value.Value.TheVariants.{rolls-Variable, rolls-Int, rolls-Float, rolls-String, rolls-Boolean, rolls-Null, rolls-Enum, rolls-List, rolls-Object}
use Rattle.gq_tree.specs.declared.value.Value.TheFolds.{fold-Value, fold-ObjectField, map-Value, fold_out-Value}
use Rattle.gq_tree.specs.declared.value.Value.TheViews.{out-Value, roll-Value, roll-out-Value}
use Rattle.gq_tree.proofs.Trees.{view_variable, view_int, view_float, view_string, view_boolean, view_null, view_enum, view_list, view_object}
use Rattle.gq_types.specs.Entries.{Text}
use Rattle.gq_merging.specs.SameArguments.{AreSameStrings, variables, ints, floats, strings, booleans, nulls, enums, AreIdentical, same, lists, objects, AreInOrder, no_more, one_more, SameArguments}
use Rattle.gq_merging.specs.Helping.Marks.{AreAlike}
use Rattle.gq_merging.proofs.ArgumentLemmas.{sets_are}

-- where two values are seen
seen_as : (a b : Value) (x y : Val Span) (P : Type 0) → value_view a ≡ x → value_view b ≡ y → P ↔ AreAlike x y → P ↔ AreAlike (value_view a) (value_view b)
seen_as a b x y P e f h = subst (λ v. P ↔ AreAlike v (value_view b)) (sym e) (subst (λ w. P ↔ AreAlike x w) (sym f) h)

-- one kind
one_variable : {n m : NameOf Span} {p q : Span} {b c : Vals Span} → AreIdentical (variable n p) b (variable m q) c → n.text ≡ m.text
one_variable (same (variables e)) = e

pub variables_alike : (v w : Variable) (a b : Value) (is : Bool) → a ≡ kind.Variable v → b ≡ kind.Variable w → is ≡ bytes_eq v.name.text w.name.text → IsTrue is ↔ AreAlike (value_view a) (value_view b)
variables_alike v w a b is e f h = seen_as a b _ _ (IsTrue is) (ap value_view e ∙ view_variable v) (ap value_view f ∙ view_variable w)
    ((λ t. same (variables ((bytes_decides v.name.text w.name.text).0 (sym h ∙ t)))), (λ i. h ∙ (bytes_decides v.name.text w.name.text).1 (one_variable i)))

one_int : {s t : Text} {p q : Span} {b c : Vals Span} → AreIdentical (int s p) b (int t q) c → s ≡ t
one_int (same (ints e)) = e

pub ints_alike : (v w : Literal) (a b : Value) (is : Bool) → a ≡ kind.Int v → b ≡ kind.Int w → is ≡ bytes_eq v.text w.text → IsTrue is ↔ AreAlike (value_view a) (value_view b)
ints_alike v w a b is e f h = seen_as a b _ _ (IsTrue is) (ap value_view e ∙ view_int v) (ap value_view f ∙ view_int w)
    ((λ t. same (ints ((bytes_decides v.text w.text).0 (sym h ∙ t)))), (λ i. h ∙ (bytes_decides v.text w.text).1 (one_int i)))

one_float : {s t : Text} {p q : Span} {b c : Vals Span} → AreIdentical (float s p) b (float t q) c → s ≡ t
one_float (same (floats e)) = e

pub floats_alike : (v w : Literal) (a b : Value) (is : Bool) → a ≡ kind.Float v → b ≡ kind.Float w → is ≡ bytes_eq v.text w.text → IsTrue is ↔ AreAlike (value_view a) (value_view b)
floats_alike v w a b is e f h = seen_as a b _ _ (IsTrue is) (ap value_view e ∙ view_float v) (ap value_view f ∙ view_float w)
    ((λ t. same (floats ((bytes_decides v.text w.text).0 (sym h ∙ t)))), (λ i. h ∙ (bytes_decides v.text w.text).1 (one_float i)))

one_string : {s t : Text} {p q : Span} {b c : Vals Span} → AreIdentical (string s p) b (string t q) c → AreSameStrings s t
one_string (same (strings e)) = e

pub strings_alike : (v w : Literal) (a b : Value) (s t : Text) (is : Bool) → a ≡ kind.String v → b ≡ kind.String w → s ≡ v.text → t ≡ w.text → IsTrue is ↔ AreSameStrings s t → IsTrue is ↔ AreAlike (value_view a) (value_view b)
strings_alike v w a b s t is e f left right h = seen_as a b _ _ (IsTrue is) (ap value_view e ∙ view_string v) (ap value_view f ∙ view_string w)
    (subst (λ x. IsTrue is ↔ AreIdentical (string x v.span) none (string w.text w.span) none) left (subst (λ x. IsTrue is ↔ AreIdentical (string s v.span) none (string x w.span) none) right
    ((λ so. same (strings (h.0 so))), (λ i. h.1 (one_string i)))))

one_boolean : {s t : Bool} {p q : Span} {b c : Vals Span} → AreIdentical (boolean s p) b (boolean t q) c → s ≡ t
one_boolean (same (booleans e)) = e

flags_are : (s t : Bool) → IsTrue (beq s t) ↔ (s ≡ t)
flags_are true true = ((λ h. refl), (λ h. refl))
flags_are false false = ((λ h. refl), (λ h. refl))
flags_are true false = ((λ h. absurd (cc)), (λ h. absurd (cc)))
flags_are false true = ((λ h. absurd (cc)), (λ h. absurd (cc)))

pub booleans_alike : (s t : Bool) (p q : Span) (a b : Value) → a ≡ kind.Boolean s p → b ≡ kind.Boolean t q → IsTrue (beq s t) ↔ AreAlike (value_view a) (value_view b)
booleans_alike s t p q a b e f = seen_as a b _ _ (IsTrue (beq s t)) (ap value_view e ∙ view_boolean s p) (ap value_view f ∙ view_boolean t q)
    ((λ h. same (booleans ((flags_are s t).0 h))), (λ i. (flags_are s t).1 (one_boolean i)))

pub nulls_alike : (p q : Span) (a b : Value) → a ≡ kind.Null p → b ≡ kind.Null q → IsTrue true ↔ AreAlike (value_view a) (value_view b)
nulls_alike p q a b e f = seen_as a b _ _ (IsTrue true) (ap value_view e ∙ view_null p) (ap value_view f ∙ view_null q) ((λ h. same nulls), (λ i. refl))

one_enum : {n m : NameOf Span} {b c : Vals Span} → AreIdentical (enum n) b (enum m) c → n.text ≡ m.text
one_enum (same (enums e)) = e

pub enums_alike : (v w : Name) (a b : Value) (is : Bool) → a ≡ kind.Enum v → b ≡ kind.Enum w → is ≡ bytes_eq v.text w.text → IsTrue is ↔ AreAlike (value_view a) (value_view b)
enums_alike v w a b is e f h = seen_as a b _ _ (IsTrue is) (ap value_view e ∙ view_enum v) (ap value_view f ∙ view_enum w)
    ((λ t. same (enums ((bytes_decides v.text w.text).0 (sym h ∙ t)))), (λ i. h ∙ (bytes_decides v.text w.text).1 (one_enum i)))

one_list : {p q : Span} {b c : Vals Span} → AreIdentical (list p) b (list q) c → AreInOrder b c
one_list (lists h) = h
one_list (same s) = elim s [ ]

pub lists_alike : (v w : Vec Value Global) (p q : Span) (a b : Value) (xs ys : List Value) (is : Bool) → a ≡ kind.List v p → b ≡ kind.List w q → xs ≡ v.items → ys ≡ w.items →
    IsTrue is ↔ AreInOrder (values_view xs) (values_view ys) → IsTrue is ↔ AreAlike (value_view a) (value_view b)
lists_alike v w p q a b xs ys is e f left right h = seen_as a b _ _ (IsTrue is) (ap value_view e ∙ view_list v p) (ap value_view f ∙ view_list w q)
    (subst (λ us. IsTrue is ↔ AreIdentical (list p) (values_view us) (list q) (values_view w.items)) left (subst (λ us. IsTrue is ↔ AreIdentical (list p) (values_view xs) (list q) (values_view us)) right
    ((λ t. lists (h.0 t)), (λ i. h.1 (one_list i)))))

one_set : {p q : Span} (xs ys : List (Val Span)) → AreIdentical (object p) (row xs) (object q) (row ys) → SameArguments xs ys
one_set xs ys (objects h k) = (sets_are xs ys).0 (h, k)
one_set xs ys (same s) = elim s [ ]

pub objects_alike : (v w : Vec ObjectField Global) (p q : Span) (a b : Value) (xs ys : List ObjectField) (is : Bool) → a ≡ kind.Object v p → b ≡ kind.Object w q → xs ≡ v.items → ys ≡ w.items →
    IsTrue is ↔ SameArguments (map entry_view xs) (map entry_view ys) → IsTrue is ↔ AreAlike (value_view a) (value_view b)
objects_alike v w p q a b xs ys is e f left right h = seen_as a b _ _ (IsTrue is) (ap value_view e ∙ view_object v p) (ap value_view f ∙ view_object w q)
    (subst (λ us. IsTrue is ↔ AreIdentical (object p) (entries_view us) (object q) (entries_view w.items)) left (subst (λ us. IsTrue is ↔ AreIdentical (object p) (entries_view xs) (object q) (entries_view us)) right
    ((λ t. let s = (sets_are (map entry_view xs) (map entry_view ys)).1 (h.0 t) in objects s.0 s.1), (λ i. h.1 (one_set (map entry_view xs) (map entry_view ys) i)))))

-- two kinds
abbrev number : Says Span → ℕ
number (variable n p) = 0
number (int t p) = 1
number (float t p) = 2
number (string t p) = 3
number (boolean b p) = 4
number (null p) = 5
number (enum n) = 6
number (list p) = 7
number (object p) = 8

one_kind : {s t : Says Span} {b c : Vals Span} → AreIdentical s b t c → number s ≡ number t
one_kind (same (variables e)) = refl
one_kind (same (ints e)) = refl
one_kind (same (floats e)) = refl
one_kind (same (strings e)) = refl
one_kind (same (booleans e)) = refl
one_kind (same nulls) = refl
one_kind (same (enums e)) = refl
one_kind (lists h) = refl
one_kind (objects h k) = refl

abbrev seen : Value-F Value ObjectField → Val Span
seen x = value_step (map-Value Value ObjectField (Val Span) (Val Span) (fold-Value (Val Span) (Val Span) value_step entry_step) (fold-ObjectField (Val Span) (Val Span) value_step entry_step) x)

view_seen : (v : Value) → value_view v ≡ seen (out-Value v)
unfolding value_view
view_seen = fold_out-Value (Val Span) (Val Span) value_step entry_step

apart : (a b : Value) (x : Val Span) → value_view a ≡ x → (number (seen (out-Value b)).label.says ≡ number x.label.says → ⊥) → IsTrue false ↔ AreAlike (value_view a) (value_view b)
apart a b x e h = ((λ t. absurd (cc)), (λ i. absurd (h (ap (λ (v : Val Span). number v.label.says) (sym (view_seen b)) ∙ sym (one_kind i) ∙ ap (λ (v : Val Span). number v.label.says) e))))

not_variable : (x : Value-F Value ObjectField) → ((w : Variable) → roll-Value x ≢ kind.Variable w) → number (seen x).label.says ≢ 0
not_variable (Value-F.Variable w) h e = h w (rolls-Variable w)
not_variable _ h e = absurd (cc)

pub no_variable : (v : Variable) (a b : Value) → a ≡ kind.Variable v → ((w : Variable) → b ≢ kind.Variable w) → IsTrue false ↔ AreAlike (value_view a) (value_view b)
no_variable v a b e h = apart a b _ (ap value_view e ∙ view_variable v) (not_variable (out-Value b) (λ w k. h w (sym (roll-out-Value b) ∙ k)))

not_int : (x : Value-F Value ObjectField) → ((w : Literal) → roll-Value x ≢ kind.Int w) → number (seen x).label.says ≢ 1
not_int (Value-F.Int w) h e = h w (rolls-Int w)
not_int _ h e = absurd (cc)

pub no_int : (v : Literal) (a b : Value) → a ≡ kind.Int v → ((w : Literal) → b ≢ kind.Int w) → IsTrue false ↔ AreAlike (value_view a) (value_view b)
no_int v a b e h = apart a b _ (ap value_view e ∙ view_int v) (not_int (out-Value b) (λ w k. h w (sym (roll-out-Value b) ∙ k)))

not_float : (x : Value-F Value ObjectField) → ((w : Literal) → roll-Value x ≢ kind.Float w) → number (seen x).label.says ≢ 2
not_float (Value-F.Float w) h e = h w (rolls-Float w)
not_float _ h e = absurd (cc)

pub no_float : (v : Literal) (a b : Value) → a ≡ kind.Float v → ((w : Literal) → b ≢ kind.Float w) → IsTrue false ↔ AreAlike (value_view a) (value_view b)
no_float v a b e h = apart a b _ (ap value_view e ∙ view_float v) (not_float (out-Value b) (λ w k. h w (sym (roll-out-Value b) ∙ k)))

not_string : (x : Value-F Value ObjectField) → ((w : Literal) → roll-Value x ≢ kind.String w) → number (seen x).label.says ≢ 3
not_string (Value-F.String w) h e = h w (rolls-String w)
not_string _ h e = absurd (cc)

pub no_string : (v : Literal) (a b : Value) → a ≡ kind.String v → ((w : Literal) → b ≢ kind.String w) → IsTrue false ↔ AreAlike (value_view a) (value_view b)
no_string v a b e h = apart a b _ (ap value_view e ∙ view_string v) (not_string (out-Value b) (λ w k. h w (sym (roll-out-Value b) ∙ k)))

not_boolean : (x : Value-F Value ObjectField) → ((c : Bool) (q : Span) → roll-Value x ≢ kind.Boolean c q) → number (seen x).label.says ≢ 4
not_boolean (Value-F.Boolean c q) h e = h c q (rolls-Boolean c q)
not_boolean _ h e = absurd (cc)

pub no_boolean : (c : Bool) (p : Span) (a b : Value) → a ≡ kind.Boolean c p → ((d : Bool) (q : Span) → b ≢ kind.Boolean d q) → IsTrue false ↔ AreAlike (value_view a) (value_view b)
no_boolean c p a b e h = apart a b _ (ap value_view e ∙ view_boolean c p) (not_boolean (out-Value b) (λ d q k. h d q (sym (roll-out-Value b) ∙ k)))

not_null : (x : Value-F Value ObjectField) → ((w : Span) → roll-Value x ≢ kind.Null w) → number (seen x).label.says ≢ 5
not_null (Value-F.Null w) h e = h w (rolls-Null w)
not_null _ h e = absurd (cc)

pub no_null : (p : Span) (a b : Value) → a ≡ kind.Null p → ((w : Span) → b ≢ kind.Null w) → IsTrue false ↔ AreAlike (value_view a) (value_view b)
no_null p a b e h = apart a b _ (ap value_view e ∙ view_null p) (not_null (out-Value b) (λ w k. h w (sym (roll-out-Value b) ∙ k)))

not_enum : (x : Value-F Value ObjectField) → ((w : Name) → roll-Value x ≢ kind.Enum w) → number (seen x).label.says ≢ 6
not_enum (Value-F.Enum w) h e = h w (rolls-Enum w)
not_enum _ h e = absurd (cc)

pub no_enum : (v : Name) (a b : Value) → a ≡ kind.Enum v → ((w : Name) → b ≢ kind.Enum w) → IsTrue false ↔ AreAlike (value_view a) (value_view b)
no_enum v a b e h = apart a b _ (ap value_view e ∙ view_enum v) (not_enum (out-Value b) (λ w k. h w (sym (roll-out-Value b) ∙ k)))

not_list : (x : Value-F Value ObjectField) → ((ws : Vec Value Global) (q : Span) → roll-Value x ≢ kind.List ws q) → number (seen x).label.says ≢ 7
not_list (Value-F.List ws q) h e = h ws q (rolls-List ws q)
not_list _ h e = absurd (cc)

pub no_list : (vs : Vec Value Global) (p : Span) (a b : Value) → a ≡ kind.List vs p → ((ws : Vec Value Global) (q : Span) → b ≢ kind.List ws q) → IsTrue false ↔ AreAlike (value_view a) (value_view b)
no_list vs p a b e h = apart a b _ (ap value_view e ∙ view_list vs p) (not_list (out-Value b) (λ ws q k. h ws q (sym (roll-out-Value b) ∙ k)))

not_object : (x : Value-F Value ObjectField) → ((fs : Vec ObjectField Global) (q : Span) → roll-Value x ≢ kind.Object fs q) → number (seen x).label.says ≢ 8
not_object (Value-F.Object fs q) h e = h fs q (rolls-Object fs q)
not_object _ h e = absurd (cc)

pub no_object : (es : Vec ObjectField Global) (p : Span) (a b : Value) → a ≡ kind.Object es p → ((fs : Vec ObjectField Global) (q : Span) → b ≢ kind.Object fs q) → IsTrue false ↔ AreAlike (value_view a) (value_view b)
no_object es p a b e h = apart a b _ (ap value_view e ∙ view_object es p) (not_object (out-Value b) (λ fs q k. h fs q (sym (roll-out-Value b) ∙ k)))

-- lists
both_next : {l m : Part Span} {b c r s : Vals Span} → AreInOrder (more l b r) (more m c s) → AreIdentical l.says b m.says c × AreInOrder r s
both_next (one_more h k) = (h, k)

pub order_apart : (xs ys : List Value) → (length xs ≡ length ys → ⊥) → IsTrue false ↔ AreInOrder (values_view xs) (values_view ys)
order_apart xs ys h = ((λ t. absurd (cc)), (λ o. absurd (h (as_many xs ys o))))
  where
    as_many : (xs ys : List Value) → AreInOrder (values_view xs) (values_view ys) → length xs ≡ length ys
    as_many [] [] o = refl
    as_many [] (y ∷ ys) o = elim o [ ]
    as_many (x ∷ xs) [] o = elim o [ ]
    as_many (x ∷ xs) (y ∷ ys) o = ap suc (as_many xs ys (both_next o).1)

module _ (xs ys : List Value) (i : ℕ) where
  abbrev IsRestInOrder : ℕ → Type 0
  IsRestInOrder k = AreInOrder (values_view (drop k xs)) (values_view (drop k ys))

  module _ (x y : Value) (same_so : Bool) (inside : i < length xs) (other_inside : i < length ys) (read : get_or xs i x ≡ x) (other_read : get_or ys i y ≡ y)
      (are : IsTrue same_so ↔ AreAlike (value_view x) (value_view y)) where
    one_step : IsRestInOrder i ↔ (AreAlike (value_view x) (value_view y) × IsRestInOrder (i + 1))
    one_step =
        let e : drop i xs ≡ x ∷ drop (i + 1) xs = drop_more xs i x inside ∙ ap (λ z. z ∷ drop (i + 1) xs) read in
        let f : drop i ys ≡ y ∷ drop (i + 1) ys = drop_more ys i y other_inside ∙ ap (λ z. z ∷ drop (i + 1) ys) other_read in
        subst (λ us. AreInOrder (values_view us) (values_view (drop i ys)) ↔ (AreAlike (value_view x) (value_view y) × IsRestInOrder (i + 1))) (sym e)
        (subst (λ us. AreInOrder (values_view (x ∷ drop (i + 1) xs)) (values_view us) ↔ (AreAlike (value_view x) (value_view y) × IsRestInOrder (i + 1))) (sym f)
        ((λ o. both_next o), (λ p. one_more p.0 p.1)))

    pub order_goes_on : (W : Type 0) → same_so ≡ true → IsRestInOrder i ↔ W → IsRestInOrder (i + 1) ↔ W
    order_goes_on W so h = ((λ o. h.0 (one_step.1 (are.0 so, o))), (λ w. (one_step.0 (h.1 w)).1))

    pub order_stops : (W : Type 0) → same_so ≡ false → IsRestInOrder i ↔ W → IsTrue false ↔ W
    order_stops W so h = ((λ t. absurd (cc)), (λ w. absurd (not_both (are.1 (one_step.0 (h.1 w)).0) so)))
      where
        not_both : {b : Bool} → b ≡ true → b ≡ false → ⊥
        not_both t f = cc

  pub order_ends : (W : Type 0) → length xs ≡ length ys → length xs ≤ i → IsRestInOrder i ↔ W → IsTrue true ↔ W
  order_ends W as_many end h = ((λ t. h.0 (empty xs ys i as_many end)), (λ w. refl))
    where
      empty : (us vs : List Value) (k : ℕ) → length us ≡ length vs → length us ≤ k → AreInOrder (values_view (drop k us)) (values_view (drop k vs))
      empty [] [] zero e l = no_more
      empty [] [] (suc k) e l = no_more
      empty [] (v ∷ vs) k e l = absurd (omega (arith, e))
      empty (u ∷ us) [] k e l = absurd (omega (arith, e))
      empty (u ∷ us) (v ∷ vs) zero e l = absurd (omega (arith, l))
      empty (u ∷ us) (v ∷ vs) (suc k) e l = empty us vs k (omega (arith, e)) (omega (arith, l))
