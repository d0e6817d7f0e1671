-- Documents are dropped and put until they are those of another project.
use Rattle.std.proofs.Common.{◌≡◌, ℕ, zero, suc, ◌<◌, Bool, true, false, cond, List, [], ◌∷◌, ◌++◌, length, get_or, take, Contains, Some, None, Option, find, refl, sym, ◌∙◌, ap, subst, arith}
use Rattle.std.specs.Option.{option_or, option_copied, is_some}
use Rattle.std.specs.Borrow.{Bor}
use Rattle.std.specs.Str.{bytes_eq}
use Rattle.std.specs.List.{AllByRecursion}
use Rattle.std.specs.Cmp.Lexicographic.{slice_cmp, bytes_decides}
use Rattle.std.specs.Ordering.{nat_cmp, is_lt}
use Rattle.std.specs.declared.cmp.Ordering.TheVariants.{Less}
use Rattle.std.proofs.lemmas.Cmp.{tied_itself}
use Rattle.std.specs.List.Sorted.{IsStrictlySortedBy}
use Rattle.std.proofs.Math.Logic.{⊎_elim}
use Rattle.std.proofs.lemmas.Bool.{both_ways, false_from_ne_true}
use Rattle.std.proofs.lemmas.List.Folds.{find-append}
use Rattle.std.proofs.lemmas.List.Elements.{Contains-push, Contains-push_cases, Contains-append_left, Contains-append_right}
use Rattle.gq_project.specs.declared.document.Doc.{Doc}
use Rattle.gq_project.specs.Documents.{IsInOrder, has_key, with_doc, without}
use Rattle.gq_project.specs.Helping.Places.{IsPlaceOf}
use Rattle.gq_project.proofs.Keys.{key_total, Ascend_settled, find-with_item_same, find-with_item_other, find-without_item_same, find-without_item_other}
use Rattle.gq_kept.specs.Helping.Gone.{AreGone, AreDropped, IsPut, ArePut}

-- a document is put in
pub put : (before : List Doc) (doc : Doc) → IsPut before doc (with_doc before doc)
put before doc key = by (has_key key doc) refl
  where
    by : (b : Bool) → has_key key doc ≡ b → find (has_key key) (with_doc before doc) ≡ cond b (Some doc) (find (has_key key) before)
    by true e = rw (sym ((bytes_decides doc.key key).0 e)) (find-with_item_same (λ d. d.key) before doc)
    by false e = find-with_item_other (λ d. d.key) before doc key (λ same. both_ways (has_key key doc) e ((bytes_decides doc.key key).1 (sym same)))

-- it is there already
pub put_already : (before : List Doc) (doc : Doc) → find (has_key doc.key) before ≡ Some doc → IsPut before doc before
put_already before doc found key = by (has_key key doc) refl
  where
    by : (b : Bool) → has_key key doc ≡ b → find (has_key key) before ≡ cond b (Some doc) (find (has_key key) before)
    by true e = rw (sym ((bytes_decides doc.key key).0 e)) found
    by false e = refl

less_not_equal : (a b : List ℕ) → slice_cmp nat_cmp a b ≡ Less → a ≡ b → ⊥
less_not_equal a b less same = both_ways (is_lt (slice_cmp nat_cmp a b)) (ap is_lt (ap (λ (c : List ℕ). slice_cmp nat_cmp a c) (sym same) ∙ tied_itself key_total a)) (ap is_lt less)

all_at : {X : Type 0} (P : X → Type 0) (xs : List X) → AllByRecursion P xs → (i : ℕ) (d : X) → i < length xs → P (get_or xs i d)
all_at P [] h i d below = absurd (omega arith)
all_at P (x ∷ xs) h zero d below = h.0
all_at P (x ∷ xs) h (suc i) d below = all_at P xs h.1 i d (omega arith)

-- the key of a document that has a place is found
pub place_found : (docs : List Doc) (key : List ℕ) (i : ℕ) → IsPlaceOf (λ d. d.key) key docs i → find (has_key key) docs ≡ None → ⊥
place_found [] key i place none = let below = place.in_range in omega arith
place_found (x ∷ xs) key i place none = let found = place.here x in let clash : None ≡ Some (get_or (x ∷ xs) i x) = sym none ∙ found in cc

-- in order, no key comes twice
first_of : (docs : List Doc) (i : ℕ) (d : Doc) → IsInOrder docs → i < length docs → find (has_key (get_or docs i d).key) (take i docs) ≡ None
unfolding IsStrictlySortedBy
first_of [] i d order below = absurd (omega arith)
first_of (x ∷ xs) zero d order below = refl
first_of (x ∷ xs) (suc i) d order below = rw not_here (first_of xs i d order.1 (omega arith))
  where
    there : Doc
    there = get_or xs i d

    not_here : has_key there.key x ≡ false
    not_here = false_from_ne_true _ (λ e. less_not_equal x.key there.key (all_at (λ z. slice_cmp nat_cmp x.key z.key ≡ Less) xs order.0 i d (omega arith)) ((bytes_decides x.key there.key).0 e))

pub put_more : (before now after docs : List Doc) (i : ℕ) (d : Doc) → IsInOrder docs → i < length docs → ArePut before (take i docs) now → IsPut now (get_or docs i d) after → ArePut before (take i docs ++ get_or docs i d ∷ []) after
put_more before now after docs i d order below are is key = rw find-append (by (has_key key doc) refl)
  where
    doc : Doc
    doc = get_or docs i d

    front : Option Doc
    front = find (has_key key) (take i docs)

    skip : (o p : Option Doc) → option_or o p ≡ option_or (option_or o None) p
    skip None p = refl
    skip (Some x) p = refl

    by : (b : Bool) → has_key key doc ≡ b → find (has_key key) after ≡ option_or (option_or front (cond (has_key key doc) (Some doc) None)) (find (has_key key) before)
    by true e =
        let none : front ≡ None = subst (λ (k : List ℕ). find (has_key k) (take i docs) ≡ None) ((bytes_decides doc.key key).0 e) (first_of docs i d order below) in
        is key ∙ rw (e, none)
    by false e = is key ∙ rw e (are key ∙ skip front (find (has_key key) before))

-- nothing is dropped yet
pub dropped_none : (before : List Doc) → AreDropped before [] before
dropped_none before = record { gone = λ key h. absurd (omega (arith, h.1)); rest = λ key h. h }

-- one more is dropped
pub dropped_more : (before now : List Doc) (keys : List (List ℕ)) (key : List ℕ) → AreDropped before keys now → AreDropped before (keys ++ key ∷ []) (without now key)
dropped_more before now keys key are = record {
  gone = λ k h. ⊎_elim (λ earlier. keeps k (are.gone k earlier)) (λ same. subst (λ (l : List ℕ). find (has_key l) (without now key) ≡ None) same (find-without_item_same (λ d. d.key) now key)) (Contains-push_cases keys key k h);
  rest = λ k h. keeps k (are.rest k h);
}
  where
    keeps : (k : List ℕ) → find (has_key k) now ≡ None → find (has_key k) (without now key) ≡ None
    keeps k none = by (bytes_eq k key) refl
      where
        by : (b : Bool) → bytes_eq k key ≡ b → find (has_key k) (without now key) ≡ None
        by true e = rw ((bytes_decides k key).0 e) (find-without_item_same (λ d. d.key) now key)
        by false e = find-without_item_other (λ d. d.key) now key k (λ same. both_ways (bytes_eq k key) e ((bytes_decides k key).1 same)) ∙ none

-- a document that is lent is one
pub copied_some : (o : Option (Bor Doc)) → is_some o ≡ true → option_copied o ≡ None → ⊥
copied_some None e n = both_ways false refl e
copied_some (Some x) e n = let clash : Some x.now ≡ None = n in cc

-- one more document, which is not among the others, or is
pub gone_more : (docs others : List Doc) (keys : List (List ℕ)) (doc : Doc) → AreGone docs others keys → AreGone (docs ++ doc ∷ []) others (keys ++ doc.key ∷ [])
gone_more docs others keys doc are d h none =
    ⊎_elim (λ earlier. Contains-append_left keys (doc.key ∷ []) d.key (are d earlier none))
    (λ same. subst (λ (k : List ℕ). Contains (keys ++ doc.key ∷ []) k) (ap (λ (e : Doc). e.key) same) (Contains-push keys doc.key))
    (Contains-push_cases docs doc d h)

pub gone_not : (docs others : List Doc) (keys : List (List ℕ)) (doc : Doc) → AreGone docs others keys → (find (has_key doc.key) others ≡ None → ⊥) → AreGone (docs ++ doc ∷ []) others keys
gone_not docs others keys doc are some d h none =
    ⊎_elim (λ earlier. are d earlier none)
    (λ same. absurd (some (subst (λ (e : Doc). find (has_key e.key) others ≡ None) (sym same) none)))
    (Contains-push_cases docs doc d h)

-- what is found is there, and has the key
found_there : (key : List ℕ) (docs : List Doc) (doc : Doc) → find (has_key key) docs ≡ Some doc → Contains docs doc × (doc.key ≡ key)
found_there key [] doc e = let clash : None ≡ Some doc = e in cc
found_there key (x ∷ xs) doc e = by (has_key key x) refl (λ g. found_there key xs doc g)
  where
    it : x ≡ doc → has_key key x ≡ true → Contains (x ∷ xs) doc × (doc.key ≡ key)
    it same g = ((0, omega arith, same), sym (ap (λ (d : Doc). d.key) same) ∙ (bytes_decides x.key key).0 g)

    later : Contains xs doc × (doc.key ≡ key) → Contains (x ∷ xs) doc × (doc.key ≡ key)
    later h = (Contains-append_right (x ∷ []) xs doc h.0, h.1)

    by : (b : Bool) → has_key key x ≡ b → (find (has_key key) xs ≡ Some doc → Contains xs doc × (doc.key ≡ key)) → Contains (x ∷ xs) doc × (doc.key ≡ key)
    by true g rest = let here : Some x ≡ Some doc = rw g at e in it (cc) g
    by false g rest = later (rest (rw g at e))

-- what is gone is dropped, and all that is to be there is put
pub brought : (before dropped after documents : List Doc) (keys : List (List ℕ)) → AreGone before documents keys → AreDropped before keys dropped → ArePut dropped documents after → IsInOrder documents → IsInOrder after → after ≡ documents
brought before dropped after documents keys gone are put order ordered = Ascend_settled (λ d. d.key) after documents ordered order same
  where
    none_left : (key : List ℕ) → find (has_key key) documents ≡ None → (o : Option Doc) → find (has_key key) before ≡ o → find (has_key key) dropped ≡ None
    none_left key none None e = are.rest key e
    none_left key none (Some doc) e =
        let there = found_there key before doc e in
        subst (λ (k : List ℕ). find (has_key k) dropped ≡ None) there.1
        (are.gone doc.key (gone doc there.0 (subst (λ (k : List ℕ). find (has_key k) documents ≡ None) (sym there.1) none)))

    by : (key : List ℕ) (o : Option Doc) → find (has_key key) documents ≡ o → find (has_key key) after ≡ o
    by key None e = put key ∙ rw (e, none_left key e _ refl)
    by key (Some doc) e = put key ∙ rw e

    same : (key : List ℕ) → find (has_key key) after ≡ find (has_key key) documents
    same key = by key _ refl
