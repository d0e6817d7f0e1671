-- Coercion ends: what weighs less than what.
use Rattle.std.proofs.Common.{◌≡◌, ℕ, zero, suc, ◌+◌, ◌*◌, ◌-◌, ◌<◌, ◌≤◌, Bool, true, false, cond, List, [], ◌∷◌, ◌++◌, map, flat_map, length, get_or, Option, Some, None, refl, ap, sym, ◌∙◌, subst, arith, mul-le-mul_right}
use Rattle.std.specs.Prelude.{max}
use Rattle.std.specs.List.{find}
use Rattle.std.specs.Str.{bytes_eq}
use Rattle.std.specs.Option.{option_map}
use Rattle.std.specs.Borrow.{Bor}
use Rattle.gq_text.specs.declared.place.Span.{Span}
use Rattle.gq_tree.specs.Forest.{Forest, none, more, row, relabel}
use Rattle.gq_tree.specs.Plain.{Val, InputOf, no_place, place_part, object, unnamed}
use Rattle.gq_tree.specs.Views.{value_view}
use Rattle.gq_tree.specs.declared.value.Value.{Value}
use Rattle.gq_tree.specs.declared.type_system.InputValueDefinition.{InputValueDefinition}
use Rattle.gq_types.specs.Entries.{Text, EntryOf}
use Rattle.gq_types.specs.Joined.{type_number}
use Rattle.gq_types.specs.Look.{joined_numbers}
use Rattle.gq_coerce.specs.Literals.{input_fields}
use Rattle.gq_coerce.specs.declared.parts.Part.{Part}
use Rattle.gq_coerce.specs.Helping.Views.{bare, part_view, inputs_view}
use Rattle.gq_coerce.specs.Helping.Heights.{height, height_of, deepest, deepest_default, weight, default_weight, given_weight}
use Rattle.gq_coerce.specs.Helping.Inputs.{inputs_at}
use Rattle.gq_coerce.proofs.InputLemmas.{fields_are, no_fields}

-- places do not change how deep a literal nests
pub same_height : {L M : Type 0} (f : L → M) (x : Forest L) → height (relabel f x) ≡ height x
same_height f none = refl
same_height f (more l below rest) = ap (λ n. max (suc n) (height (relabel f rest))) (same_height f below) ∙ ap (λ n. max (suc (height below)) n) (same_height f rest)

-- what stands in a row is less deep
pub item_lower : (vs : List Value) (k : ℕ) (v : Value) → k < length vs → v ≡ get_or vs k v → height (bare v).below < height (row (map bare vs))
item_lower [] k v within is = absurd (omega (arith, within))
item_lower (w ∷ vs) zero v within is = let e = ap (λ x. height (bare x).below) is in omega (arith, e)
item_lower (w ∷ vs) (suc k) v within is = let h = item_lower vs k v (omega (arith, within)) is in omega (arith, h)

pub part_lower : (ps : List Part) (k : ℕ) (p : Part) → k < length ps → p ≡ get_or ps k p → height (bare p.value.now).below < height (row (map part_view ps))
part_lower [] k p within is = absurd (omega (arith, within))
part_lower (q ∷ ps) zero p within is = let e = ap (λ x. height (bare x.value.now).below) is in omega (arith, e)
part_lower (q ∷ ps) (suc k) p within is = let h = part_lower ps k p (omega (arith, within)) is in omega (arith, h)

-- a default is no deeper than the deepest of all
pub default_lower : (ds : List (Bor InputValueDefinition)) (k : ℕ) (d : Bor InputValueDefinition) → k < length ds → d ≡ get_or ds k d → height_of (option_map value_view d.now.default) ≤ deepest (inputs_view ds)
default_lower [] k d within is = absurd (omega (arith, within))
default_lower (e ∷ ds) zero d within is = let h = ap (λ x. height_of (option_map value_view x.now.default)) is in omega (arith, h)
default_lower (e ∷ ds) (suc k) d within is = let h = default_lower ds k d (omega (arith, within)) is in omega (arith, h)

-- the deepest default of lists put together
deepest_append : (is js : List (InputOf Span)) → deepest (is ++ js) ≡ max (deepest is) (deepest js)
deepest_append [] js = omega arith
deepest_append (i ∷ is) js = let h = deepest_append is js in omega (arith, h)

deepest_at : (es : List EntryOf) (number : ℕ) → deepest (inputs_at es number) ≤ deepest_default es
deepest_at [] number = omega arith
deepest_at (e ∷ es) zero = omega arith
deepest_at (e ∷ es) (suc n) = let h = deepest_at es n in omega (arith, h)

deepest_of : (es : List EntryOf) (numbers : List ℕ) → deepest (flat_map (inputs_at es) numbers) ≤ deepest_default es
deepest_of es [] = omega arith
deepest_of es (n ∷ ns) = let h = deepest_append (inputs_at es n) (flat_map (inputs_at es) ns) in let i = deepest_at es n in let j = deepest_of es ns in omega (arith, h, i, j)

deepest_by : (es : List EntryOf) (name : Text) (o : Option ℕ) → type_number es name ≡ o → deepest (input_fields es name) ≤ deepest_default es
deepest_by es name None is = subst (λ is. deepest is ≤ deepest_default es) (no_fields es name is) (omega arith)
deepest_by es name (Some number) is = subst (λ is. deepest is ≤ deepest_default es) (fields_are es name number is) (deepest_of es (joined_numbers es number))

pub deepest_fields : (es : List EntryOf) (name : Text) → deepest (input_fields es name) ≤ deepest_default es
deepest_fields es name = deepest_by es name (type_number es name) refl

-- weights
pub heavier : (es : List EntryOf) (n a b : ℕ) → a < b → weight es n a + 8 ≤ weight es n b
heavier es n a b h = omega (arith, h)

-- a default weighs less than any literal that may enter it
pub default_light : (es : List EntryOf) (n h d : ℕ) → d ≤ deepest_default es → default_weight es n d + 3 < weight es n h + 4
default_light es zero h d l = omega arith
default_light es (suc n) h d l =
    let e : suc n * (deepest_default es + 2) ≡ n * (deepest_default es + 2) + (deepest_default es + 2) = omega (arith) in
    omega (arith, e, l)

pub default_monotone : (es : List EntryOf) (n d e : ℕ) → d ≤ e → default_weight es n d ≤ default_weight es n e
default_monotone es zero d e l = omega arith
default_monotone es (suc n) d e l = omega (arith, l)

positive : (n : ℕ) → (n ≡ 0 → ⊥) → 0 < n
positive zero h = absurd (h refl)
positive (suc n) h = omega arith

-- the literal of a default weighs less than the default
pub within_default : (es : List EntryOf) (n d : ℕ) → 0 < n → weight es (n - 1) d + 6 < default_weight es n d
within_default es zero d h = absurd (omega (arith, h))
within_default es (suc n) d h = let e : suc n - 1 ≡ n = omega arith in let f = ap (λ m. weight es m d) e in omega (arith, f)

-- what is found of the parts weighs no more than their row
given_by : (es : List EntryOf) (n : ℕ) (p : Part) (ps : List Part) (o : Option Part) (b : Bool) → given_weight es n (option_map (λ p. value_view p.value.now) o) ≤ weight es n (height (row (map part_view ps))) →
    given_weight es n (option_map (λ p. value_view p.value.now) (cond b (Some p) o)) ≤ weight es n (height (row (map part_view (p ∷ ps))))
given_by es n p ps o true rest =
    let same = same_height (place_part no_place) (value_view p.value.now).below in
    let up = heavier es n (height (value_view p.value.now).below) (height (row (map part_view (p ∷ ps)))) (omega (arith, same)) in omega (arith, up)
given_by es n p ps o false rest =
    let up : height (row (map part_view ps)) ≤ height (row (map part_view (p ∷ ps))) = omega arith in omega (arith, rest, up)

pub given_lower : (es : List EntryOf) (n : ℕ) (q : Part → Bool) (ps : List Part) → given_weight es n (option_map (λ p. value_view p.value.now) (find q ps)) ≤ weight es n (height (row (map part_view ps)))
given_lower es n q [] = omega arith
given_lower es n q (p ∷ ps) = given_by es n p ps (find q ps) (q p) (given_lower es n q ps)

-- the calls of the walk over literals
pub fields_call : (es : List EntryOf) (n : ℕ) (v : Val (Unit {0})) (name : Text) (fields : List (Val (Unit {0}))) (parts : List Part) (ds : List (InputOf Span)) →
    v ≡ unnamed (object tt) (row fields) → map part_view parts ≡ fields → ds ≡ input_fields es name → max (weight es n (height (row (map part_view parts)))) (default_weight es n (deepest ds)) + 3 < weight es n (height v.below) + 4
fields_call es n v name fields parts ds form are defined =
    let a = ap (λ (w : Val (Unit {0})). height w.below) form in
    let b = ap (λ xs. height (row xs)) are in
    let c : weight es n (height (row (map part_view parts))) ≡ weight es n (height v.below) = ap (weight es n) (b ∙ sym a) in
    let d : deepest ds ≤ deepest_default es = subst (λ is. deepest is ≤ deepest_default es) (sym defined) (deepest_fields es name) in
    let e = default_light es n (height v.below) (deepest ds) d in
    omega (arith, c, e)

pub input_call : (es : List EntryOf) (n : ℕ) (name : Text) (ps : List Part) (ds : List (Bor InputValueDefinition)) (k : ℕ) (d : Bor InputValueDefinition) (o : Option (Val Span)) →
    o ≡ option_map (λ p. value_view p.value.now) (find (λ p. bytes_eq name p.name.now) ps) → k < length ds → d ≡ get_or ds k d →
    max (given_weight es n o) (default_weight es n (height_of (option_map value_view d.now.default))) + 2 < max (weight es n (height (row (map part_view ps)))) (default_weight es n (deepest (inputs_view ds))) + 3
input_call es n name ps ds k d o found within is =
    let a : given_weight es n o ≤ weight es n (height (row (map part_view ps))) = subst (λ o. given_weight es n o ≤ weight es n (height (row (map part_view ps)))) (sym found) (given_lower es n (λ p. bytes_eq name p.name.now) ps) in
    let b = default_monotone es n (height_of (option_map value_view d.now.default)) (deepest (inputs_view ds)) (default_lower ds k d within is) in
    omega (arith, a, b)

pub given_call : (es : List EntryOf) (n w : ℕ) (v : Value) → weight es n (height (bare v).below) + 6 < max (given_weight es n (Some (value_view v))) w + 2
given_call es n w v = let a = ap (weight es n) (same_height (place_part no_place) (value_view v).below) in omega (arith, a)

pub item_call : (es : List EntryOf) (n : ℕ) (vs : List Value) (k : ℕ) (v : Value) → k < length vs → v ≡ get_or vs k v → weight es n (height (bare v).below) + 6 < weight es n (height (row (map bare vs))) + 3
item_call es n vs k v within is = let a = heavier es n (height (bare v).below) (height (row (map bare vs))) (item_lower vs k v within is) in omega (arith, a)

pub default_call : (es entries : List EntryOf) (n m : ℕ) (o : Option Value) (v : Value) → entries ≡ es → m ≡ n - 1 → (n ≡ 0 → ⊥) → o ≡ Some v →
    weight entries m (height (bare v).below) + 6 < default_weight es n (height_of (option_map value_view o))
default_call es entries n m o v a b h is =
    let c : height_of (option_map value_view o) ≡ height (value_view v).below = ap (λ o. height_of (option_map value_view o)) is in
    let d : weight entries m (height (bare v).below) ≡ weight es (n - 1) (height_of (option_map value_view o)) =
    ap (λ es. weight es m (height (bare v).below)) a ∙ ap (λ m. weight es m (height (bare v).below)) b ∙ ap (weight es (n - 1)) (same_height (place_part no_place) (value_view v).below ∙ sym c) in
    let e = within_default es n (height_of (option_map value_view o)) (positive n h) in
    omega (arith, d, e)
