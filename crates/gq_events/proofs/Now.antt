-- What is kept of documents is brought to those of now, key by key.
use Rattle.std.proofs.Common.{◌≡◌, ◌≢◌, ℕ, zero, suc, ◌+◌, ◌<◌, ◌≤◌, Bool, true, false, cond, List, [], ◌∷◌, ◌++◌, length, get_or, take, drop, Contains, Option, Some, None, Result, Ok, Err, OnOk, OnErr, is_err, find, refl, sym, ◌∙◌, ap, subst, add-one, arith}
use Rattle.std.specs.Prelude.{option_map, IfSome, slice_index_or}
use Rattle.std.specs.List.{HoldsAt, insert}
use Rattle.std.specs.declared.cmp.Ordering.TheVariants.{Equal}
use Rattle.std.proofs.lemmas.List.{take-append-drop}
use Rattle.std.proofs.Math.Logic.{⊎_elim}
use Rattle.std.proofs.Math.Seq.{drop-cons, drop-nil}
use Rattle.std.specs.Cmp.Lexicographic.{bytes_decides}
use Rattle.std.specs.Str.{bytes_eq}
use Rattle.std.proofs.lemmas.Bool.{both_ways}
use Rattle.std.proofs.lemmas.List.Elements.{Contains-append_left, Contains-append_right, Contains-get_or, Contains-push_cases, Contains-append_cases}
use Rattle.gq_text.specs.declared.buffer.NoMemory.{NoMemory}
use Rattle.gq_project.specs.declared.document.Doc.{Doc}
use Rattle.gq_project.specs.Documents as project
use Rattle.gq_project.proofs.Keys.{key_cmp, answers, find-with_item_same, find-with_item_other, find-without_item_same, find-without_item_other, Ascend_settled}
use Rattle.gq_events.specs.declared.documents.SessionDocument.{SessionDocument}
use Rattle.gq_events.specs.Documents.{has_key, document_at, doc_of, docs_of}
use Rattle.gq_events.specs.Keeping.{AgreeBut}
use Rattle.gq_events.proofs.Keyed.{found_key}

-- a key finds the document that is there under it
pub found_now : (documents : List SessionDocument) (key : List ℕ) → find (project.has_key key) (docs_of documents) ≡ option_map doc_of (document_at key documents)
found_now [] key = refl
found_now (d ∷ ds) key = by (bytes_eq d.key key) (found_now ds key)
  where
    by : (b : Bool) → find (project.has_key key) (docs_of ds) ≡ option_map doc_of (find (has_key key) ds) → cond b (Some (doc_of d)) (find (project.has_key key) (docs_of ds)) ≡ option_map doc_of (cond b (Some d) (find (has_key key) ds))
    by true e = refl
    by false e = e

-- ---- one document

pub put_now : (before : List Doc) (documents : List SessionDocument) (key : List ℕ) (document : SessionDocument) (doc : Doc) → document_at key documents ≡ Some document → doc ≡ doc_of document
    → find (project.has_key key) (project.with_doc before doc) ≡ find (project.has_key key) (docs_of documents)
put_now before documents key document doc found is =
    let same : key ≡ document.key = found_key documents key document found in
    let here : find (project.has_key key) (project.with_doc before (doc_of document)) ≡ Some (doc_of document) =
    subst (λ (k : List ℕ). find (project.has_key k) (project.with_doc before (doc_of document)) ≡ Some (doc_of document)) (sym same) (find-with_item_same (λ d. d.key) before (doc_of document)) in
    ap (λ (d : Doc). find (project.has_key key) (project.with_doc before d)) is ∙ (here ∙ sym (found_now documents key ∙ ap (option_map doc_of) found))

pub put_other : (before : List Doc) (documents : List SessionDocument) (key other : List ℕ) (document : SessionDocument) (doc : Doc) → document_at key documents ≡ Some document → doc ≡ doc_of document → other ≢ key
    → find (project.has_key other) (project.with_doc before doc) ≡ find (project.has_key other) before
put_other before documents key other document doc found is differs =
    let same : key ≡ document.key = found_key documents key document found in
    find-with_item_other (λ d. d.key) before doc other (λ e. differs (e ∙ (ap (λ (d : Doc). d.key) is ∙ sym same)))

pub drop_now : (before : List Doc) (documents : List SessionDocument) (key : List ℕ) → document_at key documents ≡ None → find (project.has_key key) (project.without before key) ≡ find (project.has_key key) (docs_of documents)
drop_now before documents key none = find-without_item_same (λ d. d.key) before key ∙ sym (found_now documents key ∙ ap (option_map doc_of) none)

pub drop_other : (before : List Doc) (key other : List ℕ) → other ≢ key → find (project.has_key other) (project.without before key) ≡ find (project.has_key other) before
drop_other before key other differs = find-without_item_other (λ d. d.key) before key other differs

-- where memory was refused, nothing has changed
pub by_result : (r : Result (Unit {0}) NoMemory) (before after put : List Doc) (other : List ℕ) → OnOk r (after ≡ put) → OnErr r (after ≡ before) → find (project.has_key other) put ≡ find (project.has_key other) before
    → find (project.has_key other) after ≡ find (project.has_key other) before
by_result (Ok u) before after put other is same stays = ap (find (project.has_key other)) is ∙ stays
by_result (Err why) before after put other is same stays = ap (find (project.has_key other)) same

-- ---- all that changed

same_or_other : (key x : List ℕ) (b : Bool) → bytes_eq key x ≡ b → (P : Type 0) → (key ≡ x → P) → (key ≢ x → P) → P
same_or_other key x true is P same other = same ((bytes_decides key x).0 is)
same_or_other key x false is P same other = other (λ e. both_ways (bytes_eq key x) is ((bytes_decides key x).1 e))

module _ (keys : List (List ℕ)) (i : ℕ) (x key : List ℕ) (below : i < length keys) (is_x : x ≡ get_or keys i x) (is_key : key ≡ x) where
  one_less : drop i keys ≡ (key ∷ []) ++ drop (i + 1) keys
  one_less = rw (add-one, drop-cons keys i x below) (ap (λ (k : List ℕ). k ∷ drop (suc i) keys) (sym is_x ∙ sym is_key))

  among : (other : List ℕ) → Contains (drop i keys) other → (other ≡ key → ⊥) → Contains (drop (i + 1) keys) other
  among other here differs =
      ⊎_elim (λ first. ⊎_elim (λ none. absurd (no_element other none)) (λ e. absurd (differs (sym e))) (Contains-push_cases [] key other first)) (λ rest. rest)
      (Contains-append_cases (key ∷ []) (drop (i + 1) keys) other (subst (λ (ks : List (List ℕ)). Contains ks other) one_less here))
    where
      no_element : (k : List ℕ) → Contains [] k → ⊥
      no_element k h = let below : h.0 < 0 = h.1 in absurd (omega arith)

  -- one more key agrees
  pub agree_more : (kept kept' docs : List Doc) → AgreeBut (drop i keys) kept docs → find (project.has_key key) kept' ≡ find (project.has_key key) docs
      → ((other : List ℕ) → other ≢ key → find (project.has_key other) kept' ≡ find (project.has_key other) kept) → AgreeBut (drop (i + 1) keys) kept' docs
  agree_more kept kept' docs are now others other not_in =
      same_or_other other key (bytes_eq other key) refl (find (project.has_key other) kept' ≡ find (project.has_key other) docs)
      (λ e. subst (λ (k : List ℕ). find (project.has_key k) kept' ≡ find (project.has_key k) docs) (sym e) now)
      (λ differs. others other differs ∙ are other (λ here. not_in (among other here differs)))

  -- where it was refused memory, only that key may disagree
  pub agree_still : (kept kept' docs : List Doc) → AgreeBut keys kept docs → ((other : List ℕ) → other ≢ key → find (project.has_key other) kept' ≡ find (project.has_key other) kept) → AgreeBut keys kept' docs
  agree_still kept kept' docs are others other not_in =
      let here : Contains keys key = subst (Contains keys) (sym (is_key ∙ is_x)) (Contains-get_or keys i x below) in
      others other (λ e. not_in (subst (Contains keys) (sym e) here)) ∙ are other not_in

-- fewer keys may disagree
pub agree_weaker : (fewer more : List (List ℕ)) (kept docs : List Doc) → ((key : List ℕ) → Contains fewer key → Contains more key) → AgreeBut fewer kept docs → AgreeBut more kept docs
agree_weaker fewer more kept docs within are key not_in = are key (λ h. not_in (within key h))

-- no key disagrees
pub agree_all : (keys : List (List ℕ)) (kept docs : List Doc) → keys ≡ [] → AgreeBut keys kept docs → project.IsInOrder kept → project.IsInOrder docs → kept ≡ docs
agree_all keys kept docs none are kept_order docs_order =
    Ascend_settled (λ (d : Doc). d.key) kept docs kept_order docs_order (λ key. are key (λ h. no_element key (subst (λ (ks : List (List ℕ)). Contains ks key) none h)))
  where
    no_element : (k : List ℕ) → Contains [] k → ⊥
    no_element k h = let below : h.0 < 0 = h.1 in absurd (omega arith)

-- ---- the keys that changed

-- a search finds a key that is there
pub found_there : (keys : List (List ℕ)) (key : List ℕ) (i : ℕ) → i < length keys → HoldsAt (λ other. key_cmp other key ≡ Equal) keys i → Contains keys key
found_there keys key i below equal = (i, below, (bytes_decides (slice_index_or keys i key) key).0 ((answers (slice_index_or keys i key) key Equal (equal key)).at))

-- one more key leaves the others
pub inserted : (keys : List (List ℕ)) (i : ℕ) (key other : List ℕ) → Contains keys other → Contains (insert keys i key) other
inserted keys i key other h =
    ⊎_elim (λ front. Contains-append_left (take i keys) (key ∷ drop i keys) other front)
    (λ back. Contains-append_right (take i keys) (key ∷ drop i keys) other (Contains-append_right (key ∷ []) (drop i keys) other back))
    (Contains-append_cases (take i keys) (drop i keys) other (subst (λ (ks : List (List ℕ)). Contains ks other) (sym (take-append-drop i keys)) h))

-- what is kept, once a key is noted under which the documents may differ
pub kept_noted : (documents : Option (List Doc)) (before after : List (List ℕ)) (key : List ℕ) (old new : List Doc) → ((other : List ℕ) → Contains before other → Contains after other) → Contains after key
    → ((other : List ℕ) → other ≢ key → find (project.has_key other) new ≡ find (project.has_key other) old) → IfSome documents (λ kept. AgreeBut before kept old) → IfSome documents (λ kept. AgreeBut after kept new)
kept_noted None before after key old new within noted same h = tt
kept_noted (Some kept) before after key old new within noted same h = λ other not_in.
    h other (λ here. not_in (within other here)) ∙ sym (same other (λ e. not_in (subst (Contains after) (sym e) noted)))

-- none is left past the end
pub drop_past : (n : ℕ) (keys : List (List ℕ)) → length keys ≤ n → drop n keys ≡ []
drop_past n [] h = drop-nil n
drop_past zero (k ∷ keys) h = absurd (omega arith)
drop_past (suc n) (k ∷ keys) h = drop_past n keys (omega arith)

-- what holds where memory was not refused
pub where_ok : {A : Type 0} (r : Result (Unit {0}) NoMemory) → false ≡ is_err r → OnOk r A → A
where_ok (Ok u) e a = a
where_ok (Err why) e a = absurd (cc)
