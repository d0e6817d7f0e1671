-- JSON values, one equation for each variant, and lists that are read item by item.
use Rattle.std.proofs.Common.{◌≡◌, ℕ, List, [], ◌∷◌, ◌++◌, map, length, get_or, arith, ap₂, Option, Some, None, option_map, refl, ap, sym, ◌∙◌, String, Global, string_bytes, rules, append_assoc}
use Rattle.serde_json.specs.Data as json
use Rattle.serde_json.specs.View.{view, number_view, items_view, members_view}
use Rattle.serde_json.specs.declared.number.Number.{Number}
use Rattle.serde_json.specs.declared.value.Value.{Value, the_lemmas}
use Rattle.serde_json.specs.declared.value.Value.TheVariants as variant
use Rattle.serde_json.proofs.Views.{view-Array, view-Object, Entry, members_len-members_view}
use Rattle.gq_meaning.specs.Values as value
use Rattle.gq_table.specs.declared.values.Entry.{Entry as Named}
use Rattle.gq_table.specs.Views.{under, entry_view}
use Rattle.gq_table.specs.Json.{before, object_items, object_answer, natural_in}
use Rattle.serde_json.specs.Find.{as_str}

pub json_null : view variant.Null ≡ json.null
json_null = search (rules, the_lemmas)

pub json_bool : (b : _) → view (variant.Bool b) ≡ json.boolean b
json_bool b = search (rules, the_lemmas)

pub json_number : (n : Number) → view (variant.Number n) ≡ json.number (number_view n)
json_number n = search (rules, the_lemmas)

pub json_string : (s : String Global) → view (variant.String s) ≡ json.string (string_bytes s)
json_string s = search (rules, the_lemmas)

pub ruleset views = (json_null, json_bool, json_number, json_string, view-Array, view-Object)

-- one read more
pub before_more : {A : Type 0} (done : List A) (x : A) (rest : Option (List A)) → option_map (λ xs. done ++ xs) (before (Some x) rest) ≡ option_map (λ xs. (done ++ x ∷ []) ++ xs) rest
before_more done x None = refl
before_more done x (Some xs) = ap Some (sym (append_assoc done (x ∷ []) xs))

pub before_none : {A : Type 0} (done : List A) (rest : Option (List A)) → option_map (λ xs. done ++ xs) (before None rest) ≡ None
before_none done rest = refl

map_last : {A B : Type 0} (f : A → B) (xs : List A) (x : A) → map f (xs ++ x ∷ []) ≡ map f xs ++ f x ∷ []
map_last f [] x = refl
map_last f (y ∷ xs) x = ap (λ ys. f y ∷ ys) (map_last f xs x)

-- a member read more
pub entry_more : (read : json.Data → Option value.Value) (all : json.Members → Option (List value.Value)) →
    ((k : List ℕ) (d : json.Data) (ms : json.Members) → all (json.member k d ms) ≡ before (option_map (under k) (read d)) (all ms)) →
    (whole : Option (List value.Value)) (done now : List Named) (x : Named) (members left : List Entry) (k : String Global) (v : Value) →
    members ≡ (k, v) ∷ left → whole ≡ option_map (λ others. map entry_view done ++ others) (all (members_view members)) →
    Some (entry_view x) ≡ option_map (under (string_bytes k)) (read (view v)) → now ≡ done ++ x ∷ [] → whole ≡ option_map (λ others. map entry_view now ++ others) (all (members_view left))
entry_more read all each whole done now x members left k v is w named grown =
    w ∙ ap (λ (es : List Entry). option_map (λ others. map entry_view done ++ others) (all (members_view es))) is
    ∙ ap (option_map (λ others. map entry_view done ++ others)) (each (string_bytes k) (view v) (members_view left))
    ∙ ap (λ (first : Option value.Value). option_map (λ others. map entry_view done ++ others) (before first (all (members_view left)))) (sym named)
    ∙ before_more (map entry_view done) (entry_view x) (all (members_view left))
    ∙ ap (λ (es : List value.Value). option_map (λ others. es ++ others) (all (members_view left))) (sym (ap (map entry_view) grown ∙ map_last entry_view done x))

-- an object that has not one member
pub not_one : {B : Type 0} (f : json.Members → Option B) → f json.no_members ≡ None → ((k l : List ℕ) (d e : json.Data) (ms : json.Members) → f (json.member k d (json.member l e ms)) ≡ None) →
    (es : List Entry) → (length es ≡ 1 → ⊥) → None ≡ f (members_view es)
not_one f empty more [] h = sym empty
not_one f empty more (e ∷ []) h = absurd (h refl)
not_one f empty more (e ∷ d ∷ es) h = sym (more _ _ _ _ _)

pub ruleset counts = (members_len-members_view)

-- an array that has not two items
pub not_two : (vs : List Value) → (length vs ≡ 2 → ⊥) → None ≡ object_items (items_view vs)
not_two [] h = refl
not_two (v ∷ []) h = refl
not_two (v ∷ w ∷ []) h = absurd (h refl)
not_two (v ∷ w ∷ x ∷ vs) h = refl

pub two_items : (vs : List Value) (a b : Value) → length vs ≡ 2 → a ≡ get_or vs 0 a → b ≡ get_or vs 1 b → object_answer (as_str (view a)) (natural_in (Some (view b))) ≡ object_items (items_view vs)
two_items [] a b n e f = cc
two_items (v ∷ []) a b n e f = absurd (omega (arith, n))
two_items (v ∷ w ∷ []) a b n e f = ap₂ (λ (x y : Value). object_answer (as_str (view x)) (natural_in (Some (view y)))) e f
two_items (v ∷ w ∷ x ∷ vs) a b n e f = absurd (omega (arith, n))
