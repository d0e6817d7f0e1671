-- A value by itself has no key, and values of two kinds are not the same.
use Rattle.std.proofs.Common.{◌≡◌, ◌≢◌, ℕ, List, Bool, true, false, refl, ap, sym, ◌∙◌, Option, None, Vec, Global}
use Rattle.std.specs.Prelude.{◌&&◌}
use Rattle.gq_text.specs.declared.place.Span.{Span}
use Rattle.gq_tree.specs.Forest.{none, agree}
use Rattle.gq_tree.specs.Plain.{NameOf, Says, Val, Vals, variable, int, float, string, boolean, null, enum, list, object, unnamed, under}
use Rattle.gq_tree.specs.Same.{same_names, both, same_says, same_parts, same_values}
use Rattle.gq_tree.specs.Views.{name_of, value_step, entry_step, value_view, values_view, entries_view}
use Rattle.gq_tree.specs.declared.tree.Name.{Name}
use Rattle.gq_tree.specs.declared.value.Literal.{Literal}
use Rattle.gq_tree.specs.declared.value.Variable.{Variable}
use Rattle.gq_tree.specs.declared.value.Value.{Value}
use Rattle.gq_tree.specs.declared.value.ObjectField.{ObjectField}
use Rattle.gq_tree.specs.declared.value.Value.TheOpen.{Value-F}
use Rattle.gq_tree.specs.declared.value.Value.TheVariants as value_variant
use Rattle.gq_tree.specs.declared.value.Value.TheVariants.{rolls-Variable, rolls-Int, rolls-Float, rolls-String, rolls-Boolean, rolls-Null, rolls-Enum, rolls-List, rolls-Object}
use Rattle.gq_tree.specs.declared.value.Value.TheFolds.{fold-Value, fold-ObjectField, map-Value, fold_out-Value}
use Rattle.gq_tree.specs.declared.value.Value.TheViews.{out-Value, roll-Value, roll-out-Value}
use Rattle.gq_tree.proofs.Trees.{view_variable, view_int, view_float, view_string, view_boolean, view_null, view_enum, view_list, view_object}

-- one layer of a value, with the views of its parts
abbrev seen : Value-F Value ObjectField → Val Span
seen x = value_step (map-Value Value ObjectField (Val Span) (Val Span) (fold-Value (Val Span) (Val Span) value_step entry_step) (fold-ObjectField (Val Span) (Val Span) value_step entry_step) x)

view_seen : (v : Value) → value_view v ≡ seen (out-Value v)
unfolding value_view
view_seen = fold_out-Value (Val Span) (Val Span) value_step entry_step

key_seen : (x : Value-F Value ObjectField) → (seen x).label.key ≡ None
key_seen (Value-F.Variable v) = refl
key_seen (Value-F.Int l) = refl
key_seen (Value-F.Float l) = refl
key_seen (Value-F.String l) = refl
key_seen (Value-F.Boolean b place) = refl
key_seen (Value-F.Null place) = refl
key_seen (Value-F.Enum n) = refl
key_seen (Value-F.List vs place) = refl
key_seen (Value-F.Object es place) = refl

-- a value by itself has no key
pub value_key : (v : Value) → (value_view v).label.key ≡ None
value_key v = ap (λ (t : Val Span). t.label.key) (view_seen v) ∙ key_seen (out-Value v)

-- two values under names that are the same
pub named_alike : (n m : NameOf Span) (v w : Value) (q r : Bool) → q ≡ same_names n m → q ≡ true → r ≡ same_values (value_view v) (value_view w) → r ≡ same_values (under n (value_view v)) (under m (value_view w))
named_alike n m v w q r names are values =
    let s = same_says (value_view v).label.says (value_view w).label.says in
    let b = agree same_parts (value_view v).below (value_view w).below in
    let alike : Option (NameOf Span) → Option (NameOf Span) → Bool = λ k l. both same_names k l && s && b in
    values ∙ ap (λ (k : Option (NameOf Span)). alike k (value_view w).label.key) (value_key v) ∙ ap (λ (k : Option (NameOf Span)). alike None k) (value_key w)
    ∙ ap (λ (t : Bool). t && s && b) (sym are ∙ names)

-- where one value is seen, and the other is not the same
apart : (a b : Value) (s : Says Span) (below : Vals Span) → value_view a ≡ unnamed s below → same_values (unnamed s below) (seen (out-Value b)) ≡ false → false ≡ same_values (value_view a) (value_view b)
apart a b s below e h = sym (ap (λ t. same_values t (value_view b)) e ∙ ap (λ t. same_values (unnamed s below) t) (view_seen b) ∙ h)

not_variable : (n : NameOf Span) (p : Span) (x : Value-F Value ObjectField) → ((w : Variable) → roll-Value x ≢ value_variant.Variable w) → same_values (unnamed (variable n p) none) (seen x) ≡ false
not_variable n p (Value-F.Variable w) h = absurd (h w (rolls-Variable w))
not_variable n p _ h = refl

pub no_variable : (v : Variable) (a b : Value) → a ≡ value_variant.Variable v → ((w : Variable) → b ≢ value_variant.Variable w) → false ≡ same_values (value_view a) (value_view b)
no_variable v a b e h = apart a b (variable (name_of v.name) v.span) none (ap value_view e ∙ view_variable v) (not_variable (name_of v.name) v.span (out-Value b) (λ w k. h w (sym (roll-out-Value b) ∙ k)))

not_int : (t : List ℕ) (p : Span) (x : Value-F Value ObjectField) → ((w : Literal) → roll-Value x ≢ value_variant.Int w) → same_values (unnamed (int t p) none) (seen x) ≡ false
not_int t p (Value-F.Int w) h = absurd (h w (rolls-Int w))
not_int t p _ h = refl

pub no_int : (v : Literal) (a b : Value) → a ≡ value_variant.Int v → ((w : Literal) → b ≢ value_variant.Int w) → false ≡ same_values (value_view a) (value_view b)
no_int v a b e h = apart a b (int v.text v.span) none (ap value_view e ∙ view_int v) (not_int v.text v.span (out-Value b) (λ w k. h w (sym (roll-out-Value b) ∙ k)))

not_float : (t : List ℕ) (p : Span) (x : Value-F Value ObjectField) → ((w : Literal) → roll-Value x ≢ value_variant.Float w) → same_values (unnamed (float t p) none) (seen x) ≡ false
not_float t p (Value-F.Float w) h = absurd (h w (rolls-Float w))
not_float t p _ h = refl

pub no_float : (v : Literal) (a b : Value) → a ≡ value_variant.Float v → ((w : Literal) → b ≢ value_variant.Float w) → false ≡ same_values (value_view a) (value_view b)
no_float v a b e h = apart a b (float v.text v.span) none (ap value_view e ∙ view_float v) (not_float v.text v.span (out-Value b) (λ w k. h w (sym (roll-out-Value b) ∙ k)))

not_string : (t : List ℕ) (p : Span) (x : Value-F Value ObjectField) → ((w : Literal) → roll-Value x ≢ value_variant.String w) → same_values (unnamed (string t p) none) (seen x) ≡ false
not_string t p (Value-F.String w) h = absurd (h w (rolls-String w))
not_string t p _ h = refl

pub no_string : (v : Literal) (a b : Value) → a ≡ value_variant.String v → ((w : Literal) → b ≢ value_variant.String w) → false ≡ same_values (value_view a) (value_view b)
no_string v a b e h = apart a b (string v.text v.span) none (ap value_view e ∙ view_string v) (not_string v.text v.span (out-Value b) (λ w k. h w (sym (roll-out-Value b) ∙ k)))

not_null : (p : Span) (x : Value-F Value ObjectField) → ((w : Span) → roll-Value x ≢ value_variant.Null w) → same_values (unnamed (null p) none) (seen x) ≡ false
not_null p (Value-F.Null w) h = absurd (h w (rolls-Null w))
not_null p _ h = refl

pub no_null : (v : Span) (a b : Value) → a ≡ value_variant.Null v → ((w : Span) → b ≢ value_variant.Null w) → false ≡ same_values (value_view a) (value_view b)
no_null v a b e h = apart a b (null v) none (ap value_view e ∙ view_null v) (not_null v (out-Value b) (λ w k. h w (sym (roll-out-Value b) ∙ k)))

not_enum : (n : NameOf Span) (x : Value-F Value ObjectField) → ((w : Name) → roll-Value x ≢ value_variant.Enum w) → same_values (unnamed (enum n) none) (seen x) ≡ false
not_enum n (Value-F.Enum w) h = absurd (h w (rolls-Enum w))
not_enum n _ h = refl

pub no_enum : (v : Name) (a b : Value) → a ≡ value_variant.Enum v → ((w : Name) → b ≢ value_variant.Enum w) → false ≡ same_values (value_view a) (value_view b)
no_enum v a b e h = apart a b (enum (name_of v)) none (ap value_view e ∙ view_enum v) (not_enum (name_of v) (out-Value b) (λ w k. h w (sym (roll-out-Value b) ∙ k)))

not_boolean : (b : Bool) (p : Span) (x : Value-F Value ObjectField) → ((c : Bool) (q : Span) → roll-Value x ≢ value_variant.Boolean c q) → same_values (unnamed (boolean b p) none) (seen x) ≡ false
not_boolean b p (Value-F.Boolean c q) h = absurd (h c q (rolls-Boolean c q))
not_boolean b p _ h = refl

pub no_boolean : (c : Bool) (p : Span) (a b : Value) → a ≡ value_variant.Boolean c p → ((d : Bool) (q : Span) → b ≢ value_variant.Boolean d q) → false ≡ same_values (value_view a) (value_view b)
no_boolean c p a b e h = apart a b (boolean c p) none (ap value_view e ∙ view_boolean c p) (not_boolean c p (out-Value b) (λ d q k. h d q (sym (roll-out-Value b) ∙ k)))

not_list : (p : Span) (below : Vals Span) (x : Value-F Value ObjectField) → ((ws : Vec Value Global) (q : Span) → roll-Value x ≢ value_variant.List ws q) → same_values (unnamed (list p) below) (seen x) ≡ false
not_list p below (Value-F.List ws q) h = absurd (h ws q (rolls-List ws q))
not_list p below _ h = refl

pub no_list : (vs : Vec Value Global) (p : Span) (a b : Value) → a ≡ value_variant.List vs p → ((ws : Vec Value Global) (q : Span) → b ≢ value_variant.List ws q) → false ≡ same_values (value_view a) (value_view b)
no_list vs p a b e h = apart a b (list p) (values_view vs.items) (ap value_view e ∙ view_list vs p) (not_list p (values_view vs.items) (out-Value b) (λ ws q k. h ws q (sym (roll-out-Value b) ∙ k)))

not_object : (p : Span) (below : Vals Span) (x : Value-F Value ObjectField) → ((fs : Vec ObjectField Global) (q : Span) → roll-Value x ≢ value_variant.Object fs q) → same_values (unnamed (object p) below) (seen x) ≡ false
not_object p below (Value-F.Object fs q) h = absurd (h fs q (rolls-Object fs q))
not_object p below _ h = refl

pub no_object : (es : Vec ObjectField Global) (p : Span) (a b : Value) → a ≡ value_variant.Object es p → ((fs : Vec ObjectField Global) (q : Span) → b ≢ value_variant.Object fs q) → false ≡ same_values (value_view a) (value_view b)
no_object es p a b e h = apart a b (object p) (entries_view es.items) (ap value_view e ∙ view_object es p) (not_object p (entries_view es.items) (out-Value b) (λ fs q k. h fs q (sym (roll-out-Value b) ∙ k)))
