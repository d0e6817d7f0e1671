-- Keys in order of first occurrence: which they are, that each is there once, and which is first.
use Rattle.std.proofs.Common.{◌≡◌, ◌≢◌, ◌⊎◌, inl, inr, zero, suc, Bool, true, false, List, [], ◌∷◌, ◌++◌, Contains, refl, sym, ap, ◌∙◌, subst, arith}
use Rattle.std.specs.Prelude.{AllPairs, if◌then◌else◌}
use Rattle.std.specs.List.{list_any}
use Rattle.std.specs.Str.{bytes_eq}
use Rattle.std.proofs.lemmas.List.{get_or_default}
use Rattle.std.proofs.lemmas.List.Kept.{AllPairs-cons}
use Rattle.gq_meaning.specs.Values.{Text}
use Rattle.gq_meaning.specs.Expand.{Asked}
use Rattle.gq_meaning.specs.Response.{keys_after}
use Rattle.gq_meaning.specs.Thin.{IsIn}
use Rattle.gq_meaning.specs.KeyOrder.{IsMetBefore, here, later, AreKeysOf, KeysAreInOrder}
use Rattle.gq_meaning.proofs.TextLemmas.{same_text, text_same}
use Rattle.gq_meaning.proofs.NameLemmas.{in_from_test, test_from_in}
use Rattle.gq_meaning.proofs.ThinLemmas.{in_either, in_left, in_right}

-- for keys, and for fields
abbrev KeyBefore : Text → Text → List Text → Type 0
KeyBefore a b ks = IsMetBefore (λ (k : Text). k) a b ks

abbrev FieldBefore : Text → Text → List Asked → Type 0
FieldBefore a b xs = IsMetBefore (λ (x : Asked). x.key) a b xs

-- ---- elements

to_contains : {A : Type 0} (x : A) (xs : List A) → IsIn x xs → Contains xs x
to_contains x [] m = absurd m
to_contains x (y ∷ xs) (inl e) = (0, omega arith, sym e)
to_contains x (y ∷ xs) (inr m) = let c = to_contains x xs m in (suc c.0, omega (arith, c.1), c.2)

from_contains : {A : Type 0} (x : A) (xs : List A) → Contains xs x → IsIn x xs
from_contains x [] c = absurd (omega (arith, c.1))
from_contains x (y ∷ xs) (zero, l, e) = inl (sym e)
from_contains x (y ∷ xs) (suc k, l, e) = inr (from_contains x xs (k, omega (arith, l), e))

same_or_not : (a b : Text) → (a ≡ b) ⊎ (a ≢ b)
same_or_not a b = by (bytes_eq a b) refl
  where
    by : (t : Bool) → bytes_eq a b ≡ t → (a ≡ b) ⊎ (a ≢ b)
    by true e = inl (same_text a b e)
    by false e = inr (λ same. let bad : true ≡ false = sym (text_same a b same) ∙ e in cc)

-- ---- the fields of a key

abbrev HasKey : Text → List Asked → Type 0
HasKey k [] = ⊥
HasKey k (x ∷ xs) = (x.key ≡ k) ⊎ HasKey k xs

to_field : (k : Text) (xs : List Asked) → HasKey k xs → (x : Asked) × Contains xs x × (x.key ≡ k)
to_field k [] h = absurd h
to_field k (x ∷ xs) (inl e) = (x, (0, omega arith, refl), e)
to_field k (x ∷ xs) (inr h) = let r = to_field k xs h in (r.0, (suc r.1.0, omega (arith, r.1.1), r.1.2), r.2)

from_field : (k : Text) (xs : List Asked) (x : Asked) → IsIn x xs → x.key ≡ k → HasKey k xs
from_field k [] x m e = absurd m
from_field k (y ∷ xs) x (inl same) e = inl (ap (λ (z : Asked). z.key) (sym same) ∙ e)
from_field k (y ∷ xs) x (inr m) e = inr (from_field k xs x m e)

-- ---- the keys that were seen

abbrev Unseen : List Text → Text → Type 0
Unseen seen k = IsIn k seen → ⊥

unseen_more : (seen : List Text) (k x : Text) → Unseen seen k → k ≢ x → Unseen (seen ++ x ∷ []) k
unseen_more seen k x u n m = elim (in_either k seen (x ∷ []) m) [
  | inl h ↦ u h
  | inr h ↦ elim h [
    | inl e ↦ n e
    | inr impossible ↦ absurd impossible
  ]
]

not_seen : (seen : List Text) (k : Text) → list_any (bytes_eq k) seen ≡ false → Unseen seen k
not_seen seen k e m = let bad : true ≡ false = sym (test_from_in seen k m) ∙ e in cc

-- a key that is seen is not one that is not
apart : (seen : List Text) (x k : Text) → list_any (bytes_eq x) seen ≡ true → Unseen seen k → x ≢ k
apart seen x k e u same = u (subst (λ z. IsIn z seen) same (in_from_test seen x e))

-- ---- which keys there are

key_has_field : (seen : List Text) (xs : List Asked) (k : Text) → Unseen seen k → IsIn k (keys_after seen xs) → HasKey k xs
key_has_field seen [] k u m = m
key_has_field seen (x ∷ xs) k u m = by (list_any (bytes_eq x.key) seen) m (λ h. key_has_field seen xs k u h) (λ v h. key_has_field (seen ++ x.key ∷ []) xs k v h)
  where
    by : (t : Bool) → IsIn k (if t then keys_after seen xs else x.key ∷ keys_after (seen ++ x.key ∷ []) xs) → (IsIn k (keys_after seen xs) → HasKey k xs) →
        (Unseen (seen ++ x.key ∷ []) k → IsIn k (keys_after (seen ++ x.key ∷ []) xs) → HasKey k xs) → HasKey k (x ∷ xs)
    by true h next more = inr (next h)
    by false (inl e) next more = inl (sym e)
    by false (inr h) next more = elim (same_or_not k x.key) [
      | inl e ↦ inl (sym e)
      | inr n ↦ inr (more (unseen_more seen k x.key u n) h)
    ]

field_has_key : (seen : List Text) (xs : List Asked) (k : Text) → Unseen seen k → HasKey k xs → IsIn k (keys_after seen xs)
field_has_key seen [] k u h = h
field_has_key seen (x ∷ xs) k u h = by (list_any (bytes_eq x.key) seen) refl h (λ g. field_has_key seen xs k u g) (λ v g. field_has_key (seen ++ x.key ∷ []) xs k v g)
  where
    by : (t : Bool) → list_any (bytes_eq x.key) seen ≡ t → (x.key ≡ k) ⊎ HasKey k xs → (HasKey k xs → IsIn k (keys_after seen xs)) →
        (Unseen (seen ++ x.key ∷ []) k → HasKey k xs → IsIn k (keys_after (seen ++ x.key ∷ []) xs)) → IsIn k (if t then keys_after seen xs else x.key ∷ keys_after (seen ++ x.key ∷ []) xs)
    by true e (inl same) next more = absurd (apart seen x.key k e u same)
    by true e (inr g) next more = next g
    by false e (inl same) next more = inl (sym same)
    by false e (inr g) next more = elim (same_or_not k x.key) [
      | inl same ↦ inl same
      | inr n ↦ inr (more (unseen_more seen k x.key u n) g)
    ]

-- ---- each once

abbrev Once : List Text → Type 0
Once [] = Unit {0}
Once (k ∷ ks) = (IsIn k ks → ⊥) × Once ks

new_keys : (seen : List Text) (xs : List Asked) (k : Text) → IsIn k (keys_after seen xs) → Unseen seen k
new_keys seen [] k m = absurd m
new_keys seen (x ∷ xs) k m = by (list_any (bytes_eq x.key) seen) refl m (λ h. new_keys seen xs k h) (λ h. new_keys (seen ++ x.key ∷ []) xs k h)
  where
    by : (t : Bool) → list_any (bytes_eq x.key) seen ≡ t → IsIn k (if t then keys_after seen xs else x.key ∷ keys_after (seen ++ x.key ∷ []) xs) → (IsIn k (keys_after seen xs) → Unseen seen k) →
        (IsIn k (keys_after (seen ++ x.key ∷ []) xs) → Unseen (seen ++ x.key ∷ []) k) → Unseen seen k
    by true e h next more = next h
    by false e (inl same) next more = subst (Unseen seen) (sym same) (not_seen seen x.key e)
    by false e (inr h) next more = λ g. more h (in_left k seen (x.key ∷ []) g)

keys_once : (seen : List Text) (xs : List Asked) → Once (keys_after seen xs)
keys_once seen [] = tt
keys_once seen (x ∷ xs) = by (list_any (bytes_eq x.key) seen) (keys_once seen xs) (keys_once (seen ++ x.key ∷ []) xs)
  where
    by : (t : Bool) → Once (keys_after seen xs) → Once (keys_after (seen ++ x.key ∷ []) xs) → Once (if t then keys_after seen xs else x.key ∷ keys_after (seen ++ x.key ∷ []) xs)
    by true next more = next
    by false next more = (λ m. new_keys (seen ++ x.key ∷ []) xs x.key m (in_right x.key seen (x.key ∷ []) (inl refl)), more)

to_pairs : (ks : List Text) → Once ks → AllPairs (λ a b. a ≢ b) ks
to_pairs [] o = λ i j d l m. absurd (omega (arith, m))
to_pairs (k ∷ ks) o = AllPairs-cons (λ a b. a ≢ b) k ks (λ i d l same. o.0 (from_contains k ks (i, l, get_or_default ks i k d l ∙ sym same))) (to_pairs ks o.1)

from_pairs : (ks : List Text) → AllPairs (λ a b. a ≢ b) ks → Once ks
from_pairs [] all = tt
from_pairs (k ∷ ks) all = (
  λ m. let c = to_contains k ks m in all 0 (suc c.0) k (omega arith) (omega (arith, c.1)) (sym c.2),
  from_pairs ks (λ i j d l m. all (suc i) (suc j) d (omega (arith, l)) (omega (arith, m))),
)

-- ---- which key is first

module _ (a b : Text) where
  keys_to_fields : (seen : List Text) (xs : List Asked) → Unseen seen a → Unseen seen b → KeyBefore a b (keys_after seen xs) → FieldBefore a b xs
  keys_to_fields seen [] u v m = none m
    where
      none : KeyBefore a b [] → FieldBefore a b []
      none h = elim h [ ]
  keys_to_fields seen (x ∷ xs) u v m = by (list_any (bytes_eq x.key) seen) refl m (λ h. keys_to_fields seen xs u v h) (λ w z h. keys_to_fields (seen ++ x.key ∷ []) xs w z h)
    where
      first : KeyBefore a b (x.key ∷ keys_after (seen ++ x.key ∷ []) xs) → (Unseen (seen ++ x.key ∷ []) a → Unseen (seen ++ x.key ∷ []) b → KeyBefore a b (keys_after (seen ++ x.key ∷ []) xs) → FieldBefore a b xs) →
          FieldBefore a b (x ∷ xs)
      first (here e n) more = here e n
      first (later n h) more = elim (same_or_not a x.key) [
        | inl e ↦ here (sym e) n
        | inr o ↦ later n (more (unseen_more seen a x.key u o) (unseen_more seen b x.key v (λ e. n (sym e))) h)
      ]

      by : (t : Bool) → list_any (bytes_eq x.key) seen ≡ t → KeyBefore a b (if t then keys_after seen xs else x.key ∷ keys_after (seen ++ x.key ∷ []) xs) → (KeyBefore a b (keys_after seen xs) → FieldBefore a b xs) →
          (Unseen (seen ++ x.key ∷ []) a → Unseen (seen ++ x.key ∷ []) b → KeyBefore a b (keys_after (seen ++ x.key ∷ []) xs) → FieldBefore a b xs) → FieldBefore a b (x ∷ xs)
      by true e h next more = later (apart seen x.key b e v) (next h)
      by false e h next more = first h more

  fields_to_keys : (seen : List Text) (xs : List Asked) → Unseen seen a → Unseen seen b → FieldBefore a b xs → KeyBefore a b (keys_after seen xs)
  fields_to_keys seen [] u v m = none m
    where
      none : FieldBefore a b [] → KeyBefore a b []
      none h = elim h [ ]
  fields_to_keys seen (x ∷ xs) u v m = by (list_any (bytes_eq x.key) seen) refl m (λ h. fields_to_keys seen xs u v h) (λ w z h. fields_to_keys (seen ++ x.key ∷ []) xs w z h)
    where
      by : (t : Bool) → list_any (bytes_eq x.key) seen ≡ t → FieldBefore a b (x ∷ xs) → (FieldBefore a b xs → KeyBefore a b (keys_after seen xs)) →
          (Unseen (seen ++ x.key ∷ []) a → Unseen (seen ++ x.key ∷ []) b → FieldBefore a b xs → KeyBefore a b (keys_after (seen ++ x.key ∷ []) xs)) → KeyBefore a b (if t then keys_after seen xs else x.key ∷ keys_after (seen ++ x.key ∷ []) xs)
      by true e (here same n) next more = absurd (apart seen x.key a e u same)
      by true e (later n h) next more = next h
      by false e (here same n) next more = here same n
      by false e (later n h) next more = elim (same_or_not a x.key) [
        | inl same ↦ here (sym same) n
        | inr o ↦ later n (more (unseen_more seen a x.key u o) (unseen_more seen b x.key v (λ same. n (sym same))) h)
      ]

  -- one that is met is there
  met_is_in : (ks : List Text) → KeyBefore a b ks → IsIn a ks
  met_is_in [] h = elim h [ ]
  met_is_in (k ∷ ks) (here e n) = inl (sym e)
  met_is_in (k ∷ ks) (later n h) = inr (met_is_in ks h)

  -- it is met before one that is nowhere
  met_before_none : (ks : List Text) → IsIn a ks → Unseen ks b → KeyBefore a b ks
  met_before_none [] m u = absurd m
  met_before_none (k ∷ ks) (inl e) u = here (sym e) (λ same. u (inl (sym same)))
  met_before_none (k ∷ ks) (inr m) u = later (λ same. u (inl (sym same))) (met_before_none ks m (λ h. u (inr h)))

-- ---- keys that are the same in the same order

not_first : (x y : Text) (ys : List Text) → x ≢ y → KeyBefore x y (y ∷ ys) → ⊥
not_first x y ys n (here e o) = n (sym e)
not_first x y ys n (later o h) = o refl

module _ (x : Text) (xs ys : List Text) (once : IsIn x xs → ⊥) (once' : IsIn x ys → ⊥) where
  tail_members : ((k : Text) → IsIn k (x ∷ xs) → IsIn k (x ∷ ys)) → (k : Text) → IsIn k xs → IsIn k ys
  tail_members same k m = by (same k (inr m))
    where
      by : (k ≡ x) ⊎ IsIn k ys → IsIn k ys
      by (inl e) = absurd (once (subst (λ z. IsIn z xs) e m))
      by (inr h) = h

  tail_order : ((k : Text) → IsIn k xs → IsIn k ys) → ((a b : Text) → KeyBefore a b (x ∷ xs) → KeyBefore a b (x ∷ ys)) → (a b : Text) → KeyBefore a b xs → KeyBefore a b ys
  tail_order members order a b m = elim (same_or_not x b) [
    | inl e ↦ met_before_none a b ys (members a (met_is_in a b xs m)) (subst (Unseen ys) e once')
    | inr n ↦ by (order a b (later n m))
  ]
    where
      by : KeyBefore a b (x ∷ ys) → KeyBefore a b ys
      by (here e n) = absurd (once (subst (λ z. IsIn z xs) (sym e) (met_is_in a b xs m)))
      by (later n h) = h

module _ (x : Text) (xs ys : List Text) (o : Once (x ∷ xs)) where
  abbrev Members : List Text → List Text → Type 0
  Members us vs = (k : Text) → IsIn k us → IsIn k vs

  abbrev Ordered : List Text → List Text → Type 0
  Ordered us vs = (a b : Text) → KeyBefore a b us → KeyBefore a b vs

  same_tail : (y : Text) → x ≡ y → Once (y ∷ ys) → Members (x ∷ xs) (y ∷ ys) → Members (y ∷ ys) (x ∷ xs) → Ordered (x ∷ xs) (y ∷ ys) → (Members xs ys → Members ys xs → Ordered xs ys → xs ≡ ys) → x ∷ xs ≡ y ∷ ys
  same_tail y e p to from order next =
      let p' : Once (x ∷ ys) = subst (λ (w : Text). Once (w ∷ ys)) (sym e) p in
      let to' : Members (x ∷ xs) (x ∷ ys) = subst (λ (w : Text). Members (x ∷ xs) (w ∷ ys)) (sym e) to in
      let from' : Members (x ∷ ys) (x ∷ xs) = subst (λ (w : Text). Members (w ∷ ys) (x ∷ xs)) (sym e) from in
      let order' : Ordered (x ∷ xs) (x ∷ ys) = subst (λ (w : Text). Ordered (x ∷ xs) (w ∷ ys)) (sym e) order in
      let members : Members xs ys = tail_members x xs ys o.0 p'.0 to' in
      let rest : xs ≡ ys = next members (tail_members x ys xs p'.0 o.0 from') (tail_order x xs ys o.0 p'.0 members order') in
      cc

same_keys : (xs ys : List Text) → Once xs → Once ys → ((k : Text) → IsIn k xs → IsIn k ys) → ((k : Text) → IsIn k ys → IsIn k xs) → ((a b : Text) → KeyBefore a b xs → KeyBefore a b ys) → xs ≡ ys
same_keys [] [] o p to from order = refl
same_keys [] (y ∷ ys) o p to from order = absurd (from y (inl refl))
same_keys (x ∷ xs) [] o p to from order = absurd (to x (inl refl))
same_keys (x ∷ xs) (y ∷ ys) o p to from order = elim (same_or_not x y) [
  | inl e ↦ same_tail x xs ys o y e p to from order (λ a b c. same_keys xs ys o.1 p.1 a b c)
  | inr n ↦ absurd (not_first x y ys n (order x y (here refl n)))
]

-- ---- the law

none_seen : (k : Text) → Unseen [] k
none_seen k m = absurd m

are_keys : (fields : List Asked) → AreKeysOf fields (keys_after [] fields)
are_keys fields = record {
  are_theirs = λ k. (
    λ c. to_field k fields (key_has_field [] fields k (none_seen k) (from_contains k (keys_after [] fields) c)),
    λ f. to_contains k (keys_after [] fields) (field_has_key [] fields k (none_seen k) (from_field k fields f.0 (from_contains f.0 fields f.1) f.2)),
  );
  each_once = to_pairs (keys_after [] fields) (keys_once [] fields);
  in_order = λ a b. (keys_to_fields a b [] fields (none_seen a) (none_seen b), fields_to_keys a b [] fields (none_seen a) (none_seen b));
}

one_list : (fields : List Asked) (xs ys : List Text) → AreKeysOf fields xs → AreKeysOf fields ys → xs ≡ ys
one_list fields xs ys a b = same_keys xs ys (from_pairs xs a.each_once) (from_pairs ys b.each_once) (members xs ys a b) (members ys xs b a) (λ k l m. (b.in_order k l).1 ((a.in_order k l).0 m))
  where
    members : (us vs : List Text) → AreKeysOf fields us → AreKeysOf fields vs → (k : Text) → IsIn k us → IsIn k vs
    members us vs c d k m = from_contains k vs ((d.are_theirs k).1 ((c.are_theirs k).0 (to_contains k us m)))

pub keys_are_in_order : KeysAreInOrder
keys_are_in_order fields keys = (
  λ e. subst (AreKeysOf fields) (sym e) (are_keys fields),
  λ a. one_list fields keys (keys_after [] fields) a (are_keys fields),
)
