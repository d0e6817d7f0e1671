-- One more field joins the groups.
use Rattle.std.proofs.Common.{◌≡◌, inl, inr, ℕ, zero, suc, ◌<◌, Bool, true, false, cond, List, [], ◌∷◌, ◌++◌, length, get_or, map, refl, sym, ap, ◌∙◌, subst, arith, append-nil, append_assoc, Vec, Global, Some, None, slice_set}
use Rattle.std.proofs.lemmas.List.{map-append}
use Rattle.std.proofs.lemmas.List.Quantifiers.{position-Some}
use Rattle.gq_names.proofs.PlaceLemmas.{is_some_position}
use Rattle.gq_collect.specs.declared.collect.Taken.{Taken}
use Rattle.gq_collect.specs.Groups.{AreGroups}
use Rattle.gq_collect.specs.Views.{asked_of, asked_all}
use Rattle.std.specs.Prelude.{if◌then◌else◌, ◌||◌, is_some}
use Rattle.std.specs.List.{list_any, position}
use Rattle.std.specs.Str.{bytes_eq}
use Rattle.gq_meaning.specs.Values.{Text}
use Rattle.gq_meaning.specs.Expand.{Asked}
use Rattle.gq_meaning.specs.Thin.{IsIn}
use Rattle.gq_meaning.specs.Response.{of_key, keys_after}
use Rattle.gq_meaning.proofs.TextLemmas.{same_text, text_itself}
use Rattle.gq_meaning.proofs.ThinLemmas.{in_right}
use Rattle.gq_meaning.proofs.NameLemmas.{in_from_test, test_from_in}

-- a key of a list is in it
pub in_keys_at : (xs : List Text) (i : ℕ) → i < length xs → IsIn (get_or xs i []) xs
in_keys_at [] i l = absurd (omega arith)
in_keys_at (x ∷ xs) zero l = inl refl
in_keys_at (x ∷ xs) (suc i) l = inr (in_keys_at xs i (omega arith))

-- lists of which each gives the same are as long
pub same_length : {A B C : Type 0} (f : A → C) (h : B → C) (xs : List A) (ys : List B) → map f xs ≡ map h ys → length xs ≡ length ys
same_length f h [] [] e = refl
same_length f h [] (b ∷ ys) e = cc
same_length f h (a ∷ xs) [] e = cc
same_length f h (a ∷ xs) (b ∷ ys) e = let rest : map f xs ≡ map h ys = cc in ap suc (same_length f h xs ys rest)

abbrev pub Distinct : List Text → Type 0
Distinct [] = Unit {0}
Distinct (k ∷ ks) = (list_any (bytes_eq k) ks ≡ false) × Distinct ks

any_left : (k : Text) (xs ys : List Text) → list_any (bytes_eq k) (xs ++ ys) ≡ false → list_any (bytes_eq k) xs ≡ false
any_left k [] ys e = refl
any_left k (x ∷ xs) ys e = by_test (bytes_eq k x) e (λ v. any_left k xs ys v)
  where
    by_test : (b : Bool) → (b || list_any (bytes_eq k) (xs ++ ys)) ≡ false → (list_any (bytes_eq k) (xs ++ ys) ≡ false → list_any (bytes_eq k) xs ≡ false) → (b || list_any (bytes_eq k) xs) ≡ false
    by_test true e f = cc
    by_test false e f = f e

-- no key was seen before
keys_new : (seen : List Text) (xs : List Asked) (k : Text) → IsIn k (keys_after seen xs) → list_any (bytes_eq k) seen ≡ false
keys_new seen [] k m = absurd m
keys_new seen (x ∷ xs) k m = by_test (list_any (bytes_eq x.key) seen) refl m (keys_new seen xs k) (keys_new (seen ++ x.key ∷ []) xs k)
  where
    by_test : (b : Bool) → list_any (bytes_eq x.key) seen ≡ b → IsIn k (if b then keys_after seen xs else x.key ∷ keys_after (seen ++ x.key ∷ []) xs) → (IsIn k (keys_after seen xs) → list_any (bytes_eq k) seen ≡ false) →
        (IsIn k (keys_after (seen ++ x.key ∷ []) xs) → list_any (bytes_eq k) (seen ++ x.key ∷ []) ≡ false) → list_any (bytes_eq k) seen ≡ false
    by_test true e m r s = r m
    by_test false e (inl q) r s = subst (λ z. list_any (bytes_eq z) seen ≡ false) (sym q) e
    by_test false e (inr m) r s = any_left k seen (x.key ∷ []) (s m)

pub distinct_keys : (seen : List Text) (xs : List Asked) → Distinct (keys_after seen xs)
distinct_keys seen [] = tt
distinct_keys seen (x ∷ xs) = by_test (list_any (bytes_eq x.key) seen) (distinct_keys seen xs) (distinct_keys (seen ++ x.key ∷ []) xs)
  where
    none_again : (c : Bool) → list_any (bytes_eq x.key) (keys_after (seen ++ x.key ∷ []) xs) ≡ c → c ≡ false
    none_again true h =
        let n = keys_new (seen ++ x.key ∷ []) xs x.key (in_from_test (keys_after (seen ++ x.key ∷ []) xs) x.key h) in
        let t = test_from_in (seen ++ x.key ∷ []) x.key (in_right x.key seen (x.key ∷ []) (inl refl)) in
        let bad : true ≡ false = sym t ∙ n in cc
    none_again false h = refl

    by_test : (b : Bool) → Distinct (keys_after seen xs) → Distinct (keys_after (seen ++ x.key ∷ []) xs) → Distinct (if b then keys_after seen xs else x.key ∷ keys_after (seen ++ x.key ∷ []) xs)
    by_test true d e = d
    by_test false d e = (none_again (list_any (bytes_eq x.key) (keys_after (seen ++ x.key ∷ []) xs)) refl, e)

-- the keys with one more field
pub keys_last : (seen : List Text) (xs : List Asked) (x : Asked) → keys_after seen (xs ++ x ∷ []) ≡ (if list_any (bytes_eq x.key) (seen ++ keys_after seen xs) then keys_after seen xs else keys_after seen xs ++ x.key ∷ [])
keys_last seen [] x = ap (λ z. if list_any (bytes_eq x.key) z then [] else x.key ∷ []) (sym (append-nil seen))
keys_last seen (y ∷ xs) x = by_test (list_any (bytes_eq y.key) seen) (keys_last seen xs x) (keys_last (seen ++ y.key ∷ []) xs x)
  where
    push : (b : Bool) (K : List Text) → (if b then y.key ∷ K else y.key ∷ (K ++ x.key ∷ [])) ≡ y.key ∷ (if b then K else K ++ x.key ∷ [])
    push true K = refl
    push false K = refl

    by_test : (b : Bool) → keys_after seen (xs ++ x ∷ []) ≡ (if list_any (bytes_eq x.key) (seen ++ keys_after seen xs) then keys_after seen xs else keys_after seen xs ++ x.key ∷ []) →
        keys_after (seen ++ y.key ∷ []) (xs ++ x ∷ []) ≡ (if list_any (bytes_eq x.key) ((seen ++ y.key ∷ []) ++ keys_after (seen ++ y.key ∷ []) xs) then keys_after (seen ++ y.key ∷ []) xs else keys_after (seen ++ y.key ∷ []) xs ++ x.key ∷ []) →
        (if b then keys_after seen (xs ++ x ∷ []) else y.key ∷ keys_after (seen ++ y.key ∷ []) (xs ++ x ∷ []))
        ≡ (if list_any (bytes_eq x.key) (seen ++ (if b then keys_after seen xs else y.key ∷ keys_after (seen ++ y.key ∷ []) xs)) then (if b then keys_after seen xs else y.key ∷ keys_after (seen ++ y.key ∷ []) xs)
        else (if b then keys_after seen xs else y.key ∷ keys_after (seen ++ y.key ∷ []) xs) ++ x.key ∷ [])
    by_test true r s = r
    by_test false r s =
        ap (λ z. y.key ∷ z) s ∙ ap (λ z. y.key ∷ (if list_any (bytes_eq x.key) z then keys_after (seen ++ y.key ∷ []) xs else keys_after (seen ++ y.key ∷ []) xs ++ x.key ∷ [])) (append_assoc seen (y.key ∷ []) (keys_after (seen ++ y.key ∷ []) xs))
        ∙ sym (push (list_any (bytes_eq x.key) (seen ++ (y.key ∷ keys_after (seen ++ y.key ∷ []) xs))) (keys_after (seen ++ y.key ∷ []) xs))

of_key_last : (k : Text) (fs : List Asked) (x : Asked) → of_key k (fs ++ x ∷ []) ≡ of_key k fs ++ cond (bytes_eq k x.key) (x ∷ []) []
of_key_last k [] x = refl
of_key_last k (y ∷ fs) x = by_test (bytes_eq k y.key) (of_key_last k fs x)
  where
    by_test : (b : Bool) → of_key k (fs ++ x ∷ []) ≡ of_key k fs ++ cond (bytes_eq k x.key) (x ∷ []) [] → cond b (y ∷ of_key k (fs ++ x ∷ [])) (of_key k (fs ++ x ∷ [])) ≡ cond b (y ∷ of_key k fs) (of_key k fs) ++ cond (bytes_eq k x.key) (x ∷ []) []
    by_test true e = ap (λ z. y ∷ z) e
    by_test false e = e

flip_false : (a b : Text) → bytes_eq a b ≡ false → bytes_eq b a ≡ false
flip_false a b e = by_test (bytes_eq b a) refl
  where
    by_test : (c : Bool) → bytes_eq b a ≡ c → c ≡ false
    by_test true h = let same = same_text b a h in let bad : true ≡ false = sym (text_itself a) ∙ ap (bytes_eq a) (sym same) ∙ e in cc
    by_test false h = refl

apart : (k : Text) (fs : List Asked) (x : Asked) → bytes_eq k x.key ≡ false → of_key k (fs ++ x ∷ []) ≡ of_key k fs
apart k fs x e = of_key_last k fs x ∙ ap (λ b. of_key k fs ++ cond b (x ∷ []) []) e ∙ append-nil (of_key k fs)

-- the groups of keys that are not the field's
pub same_groups : (ks : List Text) (fs : List Asked) (x : Asked) → list_any (bytes_eq x.key) ks ≡ false → map (λ k. of_key k (fs ++ x ∷ [])) ks ≡ map (λ k. of_key k fs) ks
same_groups [] fs x e = refl
same_groups (k ∷ ks) fs x e = by_test (bytes_eq x.key k) refl e (λ v. same_groups ks fs x v)
  where
    by_test : (b : Bool) → bytes_eq x.key k ≡ b → (b || list_any (bytes_eq x.key) ks) ≡ false → (list_any (bytes_eq x.key) ks ≡ false → map (λ k. of_key k (fs ++ x ∷ [])) ks ≡ map (λ k. of_key k fs) ks) →
        map (λ k. of_key k (fs ++ x ∷ [])) (k ∷ ks) ≡ map (λ k. of_key k fs) (k ∷ ks)
    by_test true h e f = cc
    by_test false h e f = ap (λ z. z ∷ map (λ k. of_key k (fs ++ x ∷ [])) ks) (apart k fs x (flip_false x.key k h)) ∙ ap (λ z. of_key k fs ∷ z) (f e)

pub set_groups : (ks : List Text) (gs : List (Vec Taken Global)) (fs : List Asked) (x : Asked) (i : ℕ) (g' gi : Vec Taken Global) → Distinct ks → i < length ks → get_or ks i [] ≡ x.key → map (λ g. asked_all g.items) gs ≡ map (λ k. of_key k fs) ks → gi ≡ get_or gs i gi →
    asked_all g'.items ≡ asked_all gi.items ++ x ∷ [] → map (λ g. asked_all g.items) (slice_set gs i g') ≡ map (λ k. of_key k (fs ++ x ∷ [])) ks
set_groups [] gs fs x i g' gi d l e m q r = absurd (omega arith)
set_groups (k ∷ ks) [] fs x i g' gi d l e m q r = cc
set_groups (k ∷ ks) (g ∷ gs) fs x zero g' gi d l e m q r =
    let first : asked_all g.items ≡ of_key k fs = cc in
    let rest : map (λ g. asked_all g.items) gs ≡ map (λ k. of_key k fs) ks = cc in
    let here : bytes_eq k x.key ≡ true = ap (bytes_eq k) (sym e) ∙ text_itself k in
    let grown : asked_all g'.items ≡ of_key k (fs ++ x ∷ []) = r ∙ ap (λ z. asked_all z.items ++ x ∷ []) q ∙ ap (λ z. z ++ x ∷ []) first ∙ ap (λ b. of_key k fs ++ cond b (x ∷ []) []) (sym here) ∙ sym (of_key_last k fs x) in
    ap (λ z. z ∷ map (λ g. asked_all g.items) gs) grown ∙ ap (λ z. of_key k (fs ++ x ∷ []) ∷ z) (rest ∙ sym (same_groups ks fs x (subst (λ z. list_any (bytes_eq z) ks ≡ false) e d.0)))
set_groups (k ∷ ks) (g ∷ gs) fs x (suc i) g' gi d l e m q r =
    let first : asked_all g.items ≡ of_key k fs = cc in
    let rest : map (λ g. asked_all g.items) gs ≡ map (λ k. of_key k fs) ks = cc in
    ap (λ z. z ∷ map (λ g. asked_all g.items) (slice_set gs i g')) (first ∙ sym (apart k fs x (other (bytes_eq k x.key) refl))) ∙ ap (λ z. of_key k (fs ++ x ∷ []) ∷ z) (set_groups ks gs fs x i g' gi d.1 (omega arith) e rest q r)
  where
    other : (b : Bool) → bytes_eq k x.key ≡ b → b ≡ false
    other true h =
        let there : IsIn k ks = subst (λ z. IsIn z ks) (e ∙ sym (same_text k x.key h)) (in_keys_at ks i (omega arith)) in
        let bad : true ≡ false = sym (test_from_in ks k there) ∙ d.0 in cc
    other false h = refl

-- a field whose key has a group
pub joins_group : (fs : List Asked) (keys : List Text) (groups : List (Vec Taken Global)) (t : Taken) (i : ℕ) (g' gi : Vec Taken Global) → AreGroups fs keys groups → position (bytes_eq t.key.now) keys ≡ Some i → gi ≡ get_or groups i gi → g'.items ≡ gi.items ++ t ∷ [] →
    AreGroups (fs ++ asked_of t ∷ []) keys (slice_set groups i g')
joins_group fs keys groups t i g' gi all p q r =
    let found = position-Some (bytes_eq t.key.now) keys i [] p in
    let seen : list_any (bytes_eq t.key.now) (keys_after [] fs) ≡ true = ap (list_any (bytes_eq t.key.now)) (sym all.keys_are) ∙ sym (is_some_position (bytes_eq t.key.now) keys) ∙ ap is_some p in
    let distinct : Distinct keys = subst Distinct (sym all.keys_are) (distinct_keys [] fs) in
    record {
      keys_are = all.keys_are ∙ sym (keys_last [] fs (asked_of t) ∙ ap (λ b. if b then keys_after [] fs else keys_after [] fs ++ t.key.now ∷ []) seen);
      groups_are = set_groups keys groups fs (asked_of t) i g' gi distinct found.0 (sym (same_text t.key.now (get_or keys i []) found.1)) all.groups_are q (ap asked_all r ∙ map-append asked_of gi.items (t ∷ []));
    }

none_more : (key other : Text) (ys : List Text) → list_any (bytes_eq key) ys ≡ false → bytes_eq key other ≡ false → list_any (bytes_eq key) (ys ++ other ∷ []) ≡ false
none_more key other [] u g = ap (λ b. b || false) g
none_more key other (y ∷ ys) u g = by_first (bytes_eq key y) u (λ v. none_more key other ys v g)
  where
    by_first : (b : Bool) → (b || list_any (bytes_eq key) ys) ≡ false → (list_any (bytes_eq key) ys ≡ false → list_any (bytes_eq key) (ys ++ other ∷ []) ≡ false) → (b || list_any (bytes_eq key) (ys ++ other ∷ [])) ≡ false
    by_first true v f = cc
    by_first false v f = f v

-- a key that is none of them has no fields
no_fields : (seen : List Text) (xs : List Asked) (key : Text) → list_any (bytes_eq key) seen ≡ false → list_any (bytes_eq key) (keys_after seen xs) ≡ false → of_key key xs ≡ []
no_fields seen [] key s e = refl
no_fields seen (x ∷ xs) key s e = by_test (list_any (bytes_eq x.key) seen) refl (bytes_eq key x.key) refl e (λ v. no_fields seen xs key s v) (λ u v. no_fields (seen ++ x.key ∷ []) xs key u v)
  where
    by_test : (b : Bool) → list_any (bytes_eq x.key) seen ≡ b → (c : Bool) → bytes_eq key x.key ≡ c → list_any (bytes_eq key) (if b then keys_after seen xs else x.key ∷ keys_after (seen ++ x.key ∷ []) xs) ≡ false → (list_any (bytes_eq key) (keys_after seen xs) ≡ false → of_key key xs ≡ []) →
        (list_any (bytes_eq key) (seen ++ x.key ∷ []) ≡ false → list_any (bytes_eq key) (keys_after (seen ++ x.key ∷ []) xs) ≡ false → of_key key xs ≡ []) → cond c (x ∷ of_key key xs) (of_key key xs) ≡ []
    by_test true h true g e r1 r2 = let same = same_text key x.key g in let bad : true ≡ false = sym h ∙ ap (λ z. list_any (bytes_eq z) seen) (sym same) ∙ s in cc
    by_test true h false g e r1 r2 = r1 e
    by_test false h true g e r1 r2 = let bad : true ≡ false = sym (ap (λ b. b || list_any (bytes_eq key) (keys_after (seen ++ x.key ∷ []) xs)) g) ∙ e in cc
    by_test false h false g e r1 r2 = r2 (none_more key x.key seen s g) (sym (ap (λ b. b || list_any (bytes_eq key) (keys_after (seen ++ x.key ∷ []) xs)) g) ∙ e)

-- a field whose key has none
pub makes_group : (fs : List Asked) (keys keys' : List Text) (groups groups' : List (Vec Taken Global)) (t : Taken) (g' : Vec Taken Global) → AreGroups fs keys groups → position (bytes_eq t.key.now) keys ≡ None → g'.items ≡ [] ++ t ∷ [] → groups' ≡ groups ++ g' ∷ [] → keys' ≡ keys ++ t.key.now ∷ [] →
    AreGroups (fs ++ asked_of t ∷ []) keys' groups'
makes_group fs keys keys' groups groups' t g' all p r q k =
    let none_there : list_any (bytes_eq t.key.now) keys ≡ false = sym (is_some_position (bytes_eq t.key.now) keys) ∙ ap is_some p in
    let unseen : list_any (bytes_eq t.key.now) (keys_after [] fs) ≡ false = ap (list_any (bytes_eq t.key.now)) (sym all.keys_are) ∙ none_there in
    let here : of_key t.key.now (fs ++ asked_of t ∷ []) ≡ of_key t.key.now fs ++ asked_of t ∷ [] = of_key_last t.key.now fs (asked_of t) ∙ ap (λ b. of_key t.key.now fs ++ cond b (asked_of t ∷ []) []) (text_itself t.key.now) in
    let alone : of_key t.key.now fs ≡ [] = no_fields [] fs t.key.now refl unseen in
    record {
      keys_are = k ∙ ap (λ z. z ++ t.key.now ∷ []) all.keys_are ∙ sym (keys_last [] fs (asked_of t) ∙ ap (λ b. if b then keys_after [] fs else keys_after [] fs ++ t.key.now ∷ []) unseen);
      groups_are = ap (map (λ g. asked_all g.items)) q ∙ map-append (λ g. asked_all g.items) groups (g' ∷ []) ∙ ap (λ z. z ++ asked_all g'.items ∷ []) (all.groups_are ∙ sym (same_groups keys fs (asked_of t) none_there))
          ∙ ap (λ z. map (λ k. of_key k (fs ++ asked_of t ∷ [])) keys ++ z ∷ []) (ap asked_all r ∙ sym (here ∙ ap (λ z. z ++ asked_of t ∷ []) alone))
          ∙ sym (map-append (λ k. of_key k (fs ++ asked_of t ∷ [])) keys (t.key.now ∷ [])) ∙ ap (map (λ k. of_key k (fs ++ asked_of t ∷ []))) (sym k);
    }
