-- Values that are the same, and calls that are one.
use Rattle.std.proofs.Common.{◌≡◌, ◌≢◌, ℕ, suc, List, [], ◌∷◌, ◌++◌, Bool, true, false, length, map, refl, ap, sym, ◌∙◌, append_assoc, Option, None, Some}
use Rattle.std.specs.Prelude.{◌&&◌, nat_eq, codes}
use Rattle.std.specs.Str.{bytes_eq}
use Rattle.std.proofs.lemmas.Bool.{and_parts, eqb-true}
use Rattle.gq_tree.specs.Forest.{none, more, row, agree, agree_trees}
use Rattle.gq_meaning.specs.Values as value
use Rattle.gq_meaning.specs.Values.{Text, Leaf, Says, Part, Value, Values}
use Rattle.gq_meaning.specs.Results.{Call}
use Rattle.gq_meaning.proofs.TextLemmas.{same_text}
use Rattle.gq_table.specs.Rows.{same_bool, same_leaf, same_says, same_key, same_part, same_call}
use Rattle.gq_table.specs.Helping.CallTexts.{leaf_text, says_text, key_text, values_text, tree_text, call_text}
use Rattle.gq_table.specs.Helping.Index.{call_digest, text_digest, spread_out}
use Rattle.gq_table.specs.Views.{alone, under, value_step, entry_step, value_view}
use Rattle.gq_table.specs.declared.values.Value.{Value as Coded}
use Rattle.gq_table.specs.declared.values.Entry.{Entry}
use Rattle.gq_table.specs.declared.values.Value.TheOpen.{Value-F}
use Rattle.gq_table.specs.declared.values.Value.TheFolds.{fold-Value, fold-Entry, map-Value, fold_out-Value}
use Rattle.gq_table.specs.declared.values.Value.TheViews.{out-Value}

-- one layer of a value, with the views of its parts
abbrev seen : Value-F Coded Entry → Value
seen x = value_step (map-Value Coded Entry Value Value (fold-Value Value Value value_step entry_step) (fold-Entry Value Value value_step entry_step) x)

view_seen : (v : Coded) → value_view v ≡ seen (out-Value v)
unfolding value_view
view_seen = fold_out-Value Value Value value_step entry_step

key_seen : (x : Value-F Coded Entry) → (seen x).label.key ≡ None
key_seen Value-F.Null = refl
key_seen (Value-F.Leaf v) = refl
key_seen (Value-F.Enum n) = refl
key_seen (Value-F.List vs) = refl
key_seen (Value-F.Object es) = refl

-- a value by itself has no key
pub value_key : (v : Coded) → (value_view v).label.key ≡ None
value_key v = ap (λ (t : Value). t.label.key) (view_seen v) ∙ key_seen (out-Value v)

null_seen : (x : Value-F Coded Entry) → value.is_null (seen x).label.says ≡ agree_trees same_part (alone value.null none) (seen x)
null_seen Value-F.Null = refl
null_seen (Value-F.Leaf v) = refl
null_seen (Value-F.Enum n) = refl
null_seen (Value-F.List vs) = refl
null_seen (Value-F.Object es) = refl

-- what is the same as null is null
pub null_alike : (v w : Coded) → value_view v ≡ alone value.null none → value.is_null (value_view w).label.says ≡ agree_trees same_part (value_view v) (value_view w)
null_alike v w is =
    ap (λ (t : Value). value.is_null t.label.says) (view_seen w) ∙ null_seen (out-Value w) ∙ ap (agree_trees same_part (alone value.null none)) (sym (view_seen w))
    ∙ ap (λ (t : Value). agree_trees same_part t (value_view w)) (sym is)

and_grouped : (a b c : Bool) → (a && b && c) ≡ (a && (b && c))
and_grouped true b c = refl
and_grouped false b c = refl

-- two values under names are the same where the names are and the values are
pub named_alike : (n m : Text) (v w : Coded) → agree_trees same_part (under n (value_view v)) (under m (value_view w)) ≡ (bytes_eq n m && agree_trees same_part (value_view v) (value_view w))
named_alike n m v w =
    let s = same_says (value_view v).label.says (value_view w).label.says in
    let b = agree same_part (value_view v).below (value_view w).below in
    let keys : same_key (value_view v).label.key (value_view w).label.key ≡ true =
    ap (λ (k : Option Text). same_key k (value_view w).label.key) (value_key v) ∙ ap (λ (k : Option Text). same_key None k) (value_key w) in
    and_grouped (bytes_eq n m) s b ∙ ap (λ (t : Bool). bytes_eq n m && (t && s && b)) (sym keys)

pub alike_values : (n m : Text) (v w : Coded) (q r : Bool) → q ≡ bytes_eq n m → q ≡ true → r ≡ agree_trees same_part (value_view v) (value_view w) → r ≡ agree_trees same_part (under n (value_view v)) (under m (value_view w))
alike_values n m v w q r names are values =
    values ∙ ap (λ (b : Bool). b && agree_trees same_part (value_view v) (value_view w)) (sym are ∙ names) ∙ sym (named_alike n m v w)

pub other_names : (n m : Text) (v w : Coded) (q : Bool) → q ≡ bytes_eq n m → q ≡ false → false ≡ agree_trees same_part (under n (value_view v)) (under m (value_view w))
other_names n m v w q names differ =
    ap (λ (b : Bool). b && agree_trees same_part (value_view v) (value_view w)) (sym differ ∙ names) ∙ sym (named_alike n m v w)

last_false : (b : Bool) → (b && false) ≡ false
last_false true = refl
last_false false = refl

-- rows of two lengths are not the same
pub rows_apart : {A : Type 0} (f : A → Value) (xs ys : List A) → length xs ≢ length ys → agree same_part (row (map f xs)) (row (map f ys)) ≡ false
rows_apart f [] [] h = absurd (h refl)
rows_apart f [] (y ∷ ys) h = refl
rows_apart f (x ∷ xs) [] h = refl
rows_apart f (x ∷ xs) (y ∷ ys) h =
    ap (λ b. same_part (f x).label (f y).label && agree same_part (f x).below (f y).below && b) (rows_apart f xs ys (λ k. h (ap suc k)))
    ∙ last_false (same_part (f x).label (f y).label && agree same_part (f x).below (f y).below)

-- what is the same has one text
bool_text : (a b : Bool) → same_bool a b ≡ true → leaf_text (value.boolean a) ≡ leaf_text (value.boolean b)
bool_text true true e = refl
bool_text true false e = cc
bool_text false true e = cc
bool_text false false e = refl

leaf_alike : (a b : Leaf) → same_leaf a b ≡ true → leaf_text a ≡ leaf_text b
leaf_alike (value.boolean a) (value.boolean b) e = bool_text a b e
leaf_alike (value.number a) (value.number b) e = same_text a b e
leaf_alike (value.text a) (value.text b) e = ap (λ t. codes "\"" ++ t) (same_text a b e)
leaf_alike _ _ e = cc

says_alike : (a b : Says) → same_says a b ≡ true → says_text a ≡ says_text b
says_alike value.null value.null e = refl
says_alike (value.leaf a) (value.leaf b) e = leaf_alike a b e
says_alike (value.enum a) (value.enum b) e = same_text a b e
says_alike value.list value.list e = refl
says_alike value.object value.object e = refl
says_alike _ _ e = cc

key_alike : (a b : Option Text) → same_key a b ≡ true → key_text a ≡ key_text b
key_alike None None e = refl
key_alike (Some a) (Some b) e = ap (λ t. t ++ codes ":") (same_text a b e)
key_alike _ _ e = cc

pub values_alike : (xs ys : Values) → agree same_part xs ys ≡ true → values_text xs ≡ values_text ys
values_alike none none e = refl
values_alike none (more q c s) e = cc
values_alike (more p b r) none e = cc
values_alike (more p b r) (more q c s) e =
    let both = and_parts (same_part p q && agree same_part b c) (agree same_part r s) e in
    let first = and_parts (same_part p q) (agree same_part b c) both.0 in
    let labels = and_parts (same_key p.key q.key) (same_says p.says q.says) first.0 in
    let k : key_text p.key ≡ key_text q.key = key_alike p.key q.key labels.0 in
    let t : says_text p.says ≡ says_text q.says = says_alike p.says q.says labels.1 in
    let below : values_text b ≡ values_text c = values_alike b c first.1 in
    let rest : values_text r ≡ values_text s = values_alike r s both.1 in
    cc

-- calls that are one have one text and one digest
parts_alike : (a b : Call) → same_call a b ≡ true → ((a.type_name ≡ b.type_name) × (a.number ≡ b.number)) × ((a.field ≡ b.field) × (agree same_part a.arguments b.arguments ≡ true))
parts_alike a b e =
    let p = and_parts (bytes_eq a.type_name b.type_name && nat_eq a.number b.number && bytes_eq a.field b.field) (agree same_part a.arguments b.arguments) e in
    let q = and_parts (bytes_eq a.type_name b.type_name && nat_eq a.number b.number) (bytes_eq a.field b.field) p.0 in
    let r = and_parts (bytes_eq a.type_name b.type_name) (nat_eq a.number b.number) q.0 in
    ((same_text _ _ r.0, eqb-true _ _ r.1), (same_text _ _ q.1, p.1))

pub call_alike : (a b : Call) → same_call a b ≡ true → call_text a ≡ call_text b
call_alike a b e =
    let parts = parts_alike a b e in
    let type_name : a.type_name ≡ b.type_name = parts.0.0 in
    let number : a.number ≡ b.number = parts.0.1 in
    let field : a.field ≡ b.field = parts.1.0 in
    let arguments : values_text a.arguments ≡ values_text b.arguments = values_alike a.arguments b.arguments parts.1.1 in
    cc

pub digests_alike : (a b : Call) → same_call a b ≡ true → call_digest a ≡ call_digest b
digests_alike a b e =
    let parts = parts_alike a b e in
    ap (λ (n : ℕ). text_digest (spread_out (text_digest (spread_out n) a.type_name)) a.field) parts.0.1
    ∙ ap (λ (t : Text). text_digest (spread_out (text_digest (spread_out b.number) t)) a.field) parts.0.0
    ∙ ap (text_digest (spread_out (text_digest (spread_out b.number) b.type_name))) parts.1.0

-- the text of an entry: its name, and the text of its value
pub entry_text : (n : Text) (v : Coded) (old after_name after_colon now : Text) → after_name ≡ old ++ n → after_colon ≡ after_name ++ codes ":" → now ≡ after_colon ++ tree_text (value_view v) → now ≡ old ++ tree_text (under n (value_view v))
entry_text n v old after_name after_colon now a b c =
    let content = says_text (value_view v).label.says ++ values_text (value_view v).below in
    let bare : tree_text (value_view v) ≡ content ++ codes "," = ap (λ (k : Option Text). (key_text k ++ content) ++ codes ",") (value_key v) in
    let joined : ((old ++ n) ++ codes ":") ++ (content ++ codes ",") ≡ old ++ (((n ++ codes ":") ++ content) ++ codes ",") = simp append_assoc in
    c ∙ ap (λ (t : Text). t ++ tree_text (value_view v)) (b ∙ ap (λ (t : Text). t ++ codes ":") a) ∙ ap (λ (t : Text). ((old ++ n) ++ codes ":") ++ t) bare ∙ joined
