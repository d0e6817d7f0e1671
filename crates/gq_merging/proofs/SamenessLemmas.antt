-- Arguments that are the same but for places are identical.
use Rattle.std.proofs.Common.{◌≡◌, Bool, true, false, List, [], ◌∷◌, map, Some, refl, sym, ◌∙◌, ap, subst}
use Rattle.std.specs.Option.{option_map}
use Rattle.gq_text.specs.declared.place.Span.{Span}
use Rattle.gq_tree.specs.Forest.{none, more, row, relabel}
use Rattle.gq_tree.specs.Plain.{NameOf, Says, Part, Val, Vals, variable, int, float, string, boolean, null, enum, list, object, place_name, place_says, place_part, no_place, erase_values}
use Rattle.gq_tree.specs.Views.{name_of, value_step, entry_step, value_view, entry_view, argument_view}
use Rattle.gq_tree.specs.declared.value.Argument.{Argument}
use Rattle.gq_tree.specs.declared.value.Value.{Value}
use Rattle.gq_tree.specs.declared.value.ObjectField.{ObjectField}
use Rattle.gq_tree.specs.declared.value.Value.TheOpen.{Value-F}
use Rattle.gq_tree.specs.declared.value.Value.TheViews.{roll-Value, roll-ObjectField}
use Rattle.gq_tree.specs.declared.value.Value.TheFolds.{ind-Value, fold-Value, fold-ObjectField, map-Value, fold-roll-Value, fold_out-ObjectField}
use Rattle.gq_tree.proofs.ForestLemmas.{relabel_row}
use Rattle.gq_merging.specs.SameArguments.{variables, ints, floats, strings, booleans, nulls, enums, one_spelling, AreIdentical, same, lists, objects, AreInOrder, no_more, one_more, EachIsIn, none_is, next_is, EachHas, none_has, next_has, is_later, has_later, IsArgument, SameArguments}
use Rattle.gq_merging.proofs.ArgumentLemmas.{at_first, has_at_first, sets_are}

abbrev is_object : Says Span → Bool
is_object (object p) = true
is_object _ = false

-- the entries of an input object have names, at each depth
abbrev KeyedIn : Says Span → Vals Span → Type 0
KeyedIn s none = Unit {0}
KeyedIn s (more l b r) = (is_object s ≡ true → (n : NameOf Span) × (l.key ≡ Some n)) × KeyedIn l.says b × KeyedIn s r

abbrev IsFormed : Value → Type 0
IsFormed v = KeyedIn (value_view v).label.says (value_view v).below

abbrev IsFieldFormed : ObjectField → Type 0
IsFieldFormed e = IsFormed e.value

abbrev FormedValue : Type 0
FormedValue = (v : Value) × IsFormed v

abbrev FormedField : Type 0
FormedField = (e : ObjectField) × IsFieldFormed e

abbrev folded_entry : ObjectField → Val Span
folded_entry = fold-ObjectField (Val Span) (Val Span) value_step entry_step

view_entry : (e : ObjectField) → folded_entry e ≡ entry_view e
unfolding value_view
view_entry = fold_out-ObjectField (Val Span) (Val Span) value_step entry_step

items_formed : (p : Span) (ys : List FormedValue) → KeyedIn (list p) (row (map value_view (map (λ y. y.0) ys)))
items_formed p [] = tt
items_formed p (y ∷ ys) = ((λ h. absurd (cc)), y.1, items_formed p ys)

fields_formed : (p : Span) (ys : List FormedField) → KeyedIn (object p) (row (map folded_entry (map (λ y. y.0) ys)))
fields_formed p [] = tt
fields_formed p (y ∷ ys) =
    subst (λ (t : Val Span). KeyedIn (object p) (more t.label t.below (row (map folded_entry (map (λ z. z.0) ys))))) (sym (view_entry y.0))
    ((λ h. (name_of y.0.name, refl)), y.1, fields_formed p ys)

abbrev layer_of : Value-F FormedValue FormedField → Value-F Value ObjectField
layer_of y = map-Value FormedValue FormedField Value ObjectField (λ e. e.0) (λ e. e.0) y

abbrev seen : Value-F Value ObjectField → Val Span
seen x = value_step (map-Value Value ObjectField (Val Span) (Val Span) (fold-Value (Val Span) (Val Span) value_step entry_step) (fold-ObjectField (Val Span) (Val Span) value_step entry_step) x)

view_roll : (x : Value-F Value ObjectField) → value_view (roll-Value x) ≡ seen x
unfolding value_view
view_roll x = fold-roll-Value (Val Span) (Val Span) value_step entry_step x

layer_formed : (y : Value-F FormedValue FormedField) → KeyedIn (seen (layer_of y)).label.says (seen (layer_of y)).below
unfolding value_view
layer_formed (Value-F.Variable v) = tt
layer_formed (Value-F.Int l) = tt
layer_formed (Value-F.Float l) = tt
layer_formed (Value-F.String l) = tt
layer_formed (Value-F.Boolean b p) = tt
layer_formed (Value-F.Null p) = tt
layer_formed (Value-F.Enum n) = tt
layer_formed (Value-F.List vs p) = items_formed p vs.items
layer_formed (Value-F.Object es p) = fields_formed p es.items

values_formed : (v : Value) → IsFormed v
values_formed = ind-Value IsFormed IsFieldFormed
    (λ x y is. subst (λ z. IsFormed (roll-Value z)) is (subst (λ (t : Val Span). KeyedIn t.label.says t.below) (sym (view_roll (layer_of y))) (layer_formed y)))
    (λ x y is. subst (λ z. IsFieldFormed (roll-ObjectField z)) is y.value.1)

-- equal but for places
still_object : (s t : Says Span) → place_says (no_place {P = Span}) s ≡ place_says no_place t → is_object s ≡ true → is_object t ≡ true
still_object (object p) (object q) e h = refl
still_object _ _ e h = absurd (cc)

same_text : (n m : NameOf Span) → place_name (no_place {P = Span}) n ≡ place_name no_place m → n.text ≡ m.text
same_text n m e = ap (λ x. x.text) e

alike : (s t : Says Span) (b c : Vals Span) → place_says (no_place {P = Span}) s ≡ place_says no_place t → AreInOrder b c → (is_object s ≡ true → EachIsIn b c × EachHas b c) → AreIdentical s b t c
alike (variable n p) (variable m q) b c e o k = same (variables (same_text n m (cc)))
alike (int s p) (int t q) b c e o k = same (ints (let h : s ≡ t = cc in h))
alike (float s p) (float t q) b c e o k = same (floats (let h : s ≡ t = cc in h))
alike (string s p) (string t q) b c e o k = same (strings (one_spelling (let h : s ≡ t = cc in h)))
alike (boolean s p) (boolean t q) b c e o k = same (booleans (let h : s ≡ t = cc in h))
alike (null p) (null q) b c e o k = same nulls
alike (enum n) (enum m) b c e o k = same (enums (same_text n m (cc)))
alike (list p) (list q) b c e o k = lists o
alike (object p) (object q) b c e o k = objects (k refl).0 (k refl).1
alike _ _ b c e o k = absurd (cc)

one_name : (n o : NameOf Span) → Some (place_name (no_place {P = Span}) n) ≡ Some (place_name no_place o) → n.text ≡ o.text
one_name n o e = same_text n o (cc)

one_more_is : (m : Part Span) (c : Vals Span) {r d : Vals Span} → EachIsIn r d → EachIsIn r (more m c d)
one_more_is m c none_is = none_is
one_more_is m c (next_is i h) = next_is (is_later i) (one_more_is m c h)

one_more_has : (l : Part Span) (b : Vals Span) {r d : Vals Span} → EachHas r d → EachHas (more l b r) d
one_more_has l b none_has = none_has
one_more_has l b (next_has i h) = next_has (has_later i) (one_more_has l b h)

-- values in a row that are equal but for places, whether they are a list's or an input object's
rows_alike : (b c : Vals Span) (s t : Says Span) → KeyedIn s b → KeyedIn t c → place_says (no_place {P = Span}) s ≡ place_says no_place t →
    relabel (place_part (no_place {P = Span})) b ≡ relabel (place_part no_place) c → AreInOrder b c × (is_object s ≡ true → EachIsIn b c × EachHas b c)
rows_alike none none s t w v e f = (no_more, λ k. (none_is, none_has))
rows_alike none (more m c d) s t w v e f = absurd (cc)
rows_alike (more l b r) none s t w v e f = absurd (cc)
rows_alike (more l b r) (more m c d) s t w v e f =
    let part : place_part (no_place {P = Span}) l ≡ place_part no_place m = cc in
    let key : option_map (place_name (no_place {P = Span})) l.key ≡ option_map (place_name no_place) m.key = ap (λ x. x.key) part in
    let says : place_says (no_place {P = Span}) l.says ≡ place_says no_place m.says = ap (λ x. x.says) part in
    let below : relabel (place_part (no_place {P = Span})) b ≡ relabel (place_part no_place) c = cc in
    let rest : relabel (place_part (no_place {P = Span})) r ≡ relabel (place_part no_place) d = cc in
    let inner = rows_alike b c l.says m.says w.1 v.1 says below in
    let others = rows_alike r d s t w.2 v.2 e rest in
    let one = alike l.says m.says b c says inner.0 inner.1 in
    let x : Val Span = record { label = l; below = b } in
    let y : Val Span = record { label = m; below = c } in (
      one_more one others.0,
      λ k.
          let n = w.0 k in
          let o = v.0 (still_object s t e k) in
          let named = one_name n.0 o.0 (ap (option_map (place_name no_place)) (sym n.1) ∙ key ∙ ap (option_map (place_name no_place)) o.1) in
          let is : IsArgument x y = record { name = n.0; other = o.0; is = n.1; other_is = o.1; one_name = named; one_value = one } in
          (next_is (at_first x y d is) (one_more_is m c (others.1 k).0), next_has (has_at_first x y r is) (one_more_has l b (others.1 k).1)),
    )

arguments_formed : (p : Span) (xs : List Argument) → KeyedIn (object p) (row (map argument_view xs))
arguments_formed p [] = tt
arguments_formed p (x ∷ xs) = ((λ h. (name_of x.name, refl)), values_formed x.value, arguments_formed p xs)

-- arguments that are the same but for places are identical
pub same_when_erased : (left right : List Argument) → erase_values (map argument_view left) ≡ erase_values (map argument_view right) → SameArguments (map argument_view left) (map argument_view right)
same_when_erased left right e =
    let place : Span = record { start = 0; end = 0 } in
    let rows : relabel (place_part (no_place {P = Span})) (row (map argument_view left)) ≡ relabel (place_part no_place) (row (map argument_view right)) =
    relabel_row (place_part no_place) (map argument_view left) ∙ ap row e ∙ sym (relabel_row (place_part no_place) (map argument_view right)) in
    let alike_rows = rows_alike (row (map argument_view left)) (row (map argument_view right)) (object place) (object place) (arguments_formed place left) (arguments_formed place right) refl rows in
    (sets_are (map argument_view left) (map argument_view right)).0 (alike_rows.1 refl)
