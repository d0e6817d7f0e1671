-- The tests of sameness decide it.
use Rattle.std.proofs.Common.{◌≡◌, ◌≢◌, suc, List, [], ◌∷◌, map, refl, ap, ◌∙◌, Option, Some, None, Bool, true, false, length}
use Rattle.std.specs.Prelude.{◌&&◌}
use Rattle.std.specs.Bool.{Decides, beq}
use Rattle.std.specs.Option.{option_map}
use Rattle.std.proofs.lemmas.Slice.Eq.{bytes_eq-Decides}
use Rattle.gq_tree.specs.Forest.{Forest, Tree, none, more, row, agree, agree_trees, relabel, relabel_tree}
use Rattle.gq_tree.specs.Plain.{NameOf, Says, variable, int, float, string, boolean, null, enum, list, object, Part, Val, TypeOf, named, list_of, non_null, place_name, place_says, place_part, place_value, place_type, no_place}
use Rattle.gq_tree.specs.Same.{same_names, both, all_same, same_says, same_parts, same_values, same_types}

last_false : (b : Bool) → (b && false) ≡ false
last_false true = refl
last_false false = refl

-- rows of two lengths do not agree
pub rows_apart : {A B L M : Type 0} (f : A → Tree L) (g : B → Tree M) (e : L → M → Bool) (ss : List A) (ts : List B) → length ss ≢ length ts → agree e (row (map f ss)) (row (map g ts)) ≡ false
rows_apart f g e [] [] h = absurd (h refl)
rows_apart f g e [] (t ∷ ts) h = refl
rows_apart f g e (s ∷ ss) [] h = refl
rows_apart f g e (s ∷ ss) (t ∷ ts) h = ap (λ b. e (f s).label (g t).label && agree e (f s).below (g t).below && b) (rows_apart f g e ss ts (λ k. h (ap suc k))) ∙ last_false (e (f s).label (g t).label && agree e (f s).below (g t).below)

-- lists of two lengths are not the same
pub lists_apart : {A B L M : Type 0} (f : A → L) (g : B → M) (e : L → M → Bool) (ss : List A) (ts : List B) → length ss ≢ length ts → all_same e (map f ss) (map g ts) ≡ false
lists_apart f g e [] [] h = absurd (h refl)
lists_apart f g e [] (t ∷ ts) h = refl
lists_apart f g e (s ∷ ss) [] h = refl
lists_apart f g e (s ∷ ss) (t ∷ ts) h = ap (λ b. e (f s) (g t) && b) (lists_apart f g e ss ts (λ k. h (ap suc k))) ∙ last_false (e (f s) (g t))

-- two tests, one after the other
pub and_decides : (a b : Bool) {P Q : Type 0} → Decides a P → Decides b Q → Decides (a && b) (P × Q)
and_decides true b p q = (λ h. (p.0 refl, q.0 h), λ h. q.1 h.1)
and_decides false b p q = (λ h. absurd (cc), λ h. p.1 h.0)

-- a test that decides labels decides trees in a row
pub forests_decide : {L M N : Type 0} (e : L → M → Bool) (f : L → N) (g : M → N) → ((l : L) (m : M) → Decides (e l m) (f l ≡ g m)) → (s : Forest L) (t : Forest M) → Decides (agree e s t) (relabel f s ≡ relabel g t)
forests_decide e f g d none none = (λ h. refl, λ h. refl)
forests_decide e f g d none (more m c t) = (λ h. absurd (cc), λ h. absurd (cc))
forests_decide e f g d (more l b s) none = (λ h. absurd (cc), λ h. absurd (cc))
forests_decide e f g d (more l b s) (more m c t) =
    let x = and_decides (e l m && agree e b c) (agree e s t) (and_decides (e l m) (agree e b c) (d l m) (forests_decide e f g d b c)) (forests_decide e f g d s t) in
    (λ h. let p = x.0 h in let h1 = p.0.0 in let h2 = p.0.1 in let h3 = p.1 in cc, λ h. x.1 ((cc, cc), cc))

-- and one tree
pub trees_decide : {L M N : Type 0} (e : L → M → Bool) (f : L → N) (g : M → N) → ((l : L) (m : M) → Decides (e l m) (f l ≡ g m)) → (s : Tree L) (t : Tree M) → Decides (agree_trees e s t) (relabel_tree f s ≡ relabel_tree g t)
trees_decide {N = N} e f g d s t =
    let x = and_decides (e s.label t.label) (agree e s.below t.below) (d s.label t.label) (forests_decide e f g d s.below t.below) in
    let tree : N → Forest N → Tree N = λ l b. record { label = l; below = b } in
    (λ h. ap (λ l. tree l (relabel f s.below)) (x.0 h).0 ∙ ap (λ b. tree (g t.label) b) (x.0 h).1, λ h. x.1 (ap (λ y. y.label) h, ap (λ y. y.below) h))

-- one that decides items decides lists
pub lists_decide : {L M N : Type 0} (e : L → M → Bool) (f : L → N) (g : M → N) → ((l : L) (m : M) → Decides (e l m) (f l ≡ g m)) → (xs : List L) (ys : List M) → Decides (all_same e xs ys) (map f xs ≡ map g ys)
lists_decide e f g d [] [] = (λ h. refl, λ h. refl)
lists_decide e f g d [] (y ∷ ys) = (λ h. absurd (cc), λ h. absurd (cc))
lists_decide e f g d (x ∷ xs) [] = (λ h. absurd (cc), λ h. absurd (cc))
lists_decide e f g d (x ∷ xs) (y ∷ ys) =
    let z = and_decides (e x y) (all_same e xs ys) (d x y) (lists_decide e f g d xs ys) in
    (λ h. let h1 = (z.0 h).0 in let h2 = (z.0 h).1 in cc, λ h. z.1 (cc, cc))

-- and what may be left out
pub options_decide : {L M N : Type 0} (e : L → M → Bool) (f : L → N) (g : M → N) → ((l : L) (m : M) → Decides (e l m) (f l ≡ g m)) → (x : Option L) (y : Option M) → Decides (both e x y) (option_map f x ≡ option_map g y)
options_decide e f g d None None = (λ h. refl, λ h. refl)
options_decide e f g d None (Some y) = (λ h. absurd (cc), λ h. absurd (cc))
options_decide e f g d (Some x) None = (λ h. absurd (cc), λ h. absurd (cc))
options_decide e f g d (Some x) (Some y) = (λ h. ap Some ((d x y).0 h), λ h. (d x y).1 (cc))

pub names_decide : {P : Type 0} (m n : NameOf P) → Decides (same_names m n) (place_name no_place m ≡ place_name no_place n)
names_decide m n = (λ h. ap (λ t. let x : NameOf (Unit {0}) = record { text = t; place = tt } in x) ((bytes_eq-Decides m.text n.text).0 h), λ h. (bytes_eq-Decides m.text n.text).1 (ap (λ x. x.text) h))

flags_decide : (b c : Bool) → Decides (beq b c) (b ≡ c)
flags_decide true true = (λ h. refl, λ h. refl)
flags_decide false false = (λ h. refl, λ h. refl)
flags_decide true false = (λ h. absurd (cc), λ h. absurd (cc))
flags_decide false true = (λ h. absurd (cc), λ h. absurd (cc))

says_decide : {P : Type 0} (s t : Says P) → Decides (same_says s t) (place_says no_place s ≡ place_says no_place t)
says_decide (variable n p) (variable m q) = (λ h. let e = (names_decide n m).0 h in cc, λ h. (names_decide n m).1 (cc))
says_decide (int s p) (int t q) = (λ h. let e = (bytes_eq-Decides s t).0 h in cc, λ h. (bytes_eq-Decides s t).1 (cc))
says_decide (float s p) (float t q) = (λ h. let e = (bytes_eq-Decides s t).0 h in cc, λ h. (bytes_eq-Decides s t).1 (cc))
says_decide (string s p) (string t q) = (λ h. let e = (bytes_eq-Decides s t).0 h in cc, λ h. (bytes_eq-Decides s t).1 (cc))
says_decide (boolean b p) (boolean c q) = (λ h. let e = (flags_decide b c).0 h in cc, λ h. (flags_decide b c).1 (cc))
says_decide (null p) (null q) = (λ h. refl, λ h. refl)
says_decide (enum n) (enum m) = (λ h. let e = (names_decide n m).0 h in cc, λ h. (names_decide n m).1 (cc))
says_decide (list p) (list q) = (λ h. refl, λ h. refl)
says_decide (object p) (object q) = (λ h. refl, λ h. refl)
says_decide _ _ = (λ h. absurd (cc), λ h. absurd (cc))

parts_decide : {P : Type 0} (p q : Part P) → Decides (same_parts p q) (place_part no_place p ≡ place_part no_place q)
parts_decide p q =
    let x = and_decides (both same_names p.key q.key) (same_says p.says q.says) (options_decide same_names (place_name no_place) (place_name no_place) names_decide p.key q.key) (says_decide p.says q.says) in
    (λ h. let h1 = (x.0 h).0 in let h2 = (x.0 h).1 in cc, λ h. x.1 (ap (λ y. y.key) h, ap (λ y. y.says) h))

pub values_decide : {P : Type 0} (v w : Val P) → Decides (same_values v w) (place_value no_place v ≡ place_value no_place w)
values_decide = trees_decide same_parts (place_part no_place) (place_part no_place) parts_decide

pub types_decide : {P : Type 0} (t u : TypeOf P) → Decides (same_types t u) (place_type no_place t ≡ place_type no_place u)
types_decide (named n) (named m) = (λ h. let e = (names_decide n m).0 h in cc, λ h. (names_decide n m).1 (cc))
types_decide (list_of t) (list_of u) = (λ h. let e = (types_decide t u).0 h in cc, λ h. (types_decide t u).1 (cc))
types_decide (non_null t) (non_null u) = (λ h. let e = (types_decide t u).0 h in cc, λ h. (types_decide t u).1 (cc))
types_decide _ _ = (λ h. absurd (cc), λ h. absurd (cc))
