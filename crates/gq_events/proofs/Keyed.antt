-- Open documents in the order of their keys.
use Rattle.std.proofs.Common.{◌≡◌, ◌<◌, ℕ, Bool, length, true, false, cond, List, [], ◌∷◌, set, get_or, Option, Some, None, Result, Ok, Err, IfOk, IfErr, is_ok, is_some, ap, sym, subst, ◌∙◌, refl, arith}
use Rattle.std.specs.Prelude.{ℤ, find, option_map}
use Rattle.std.specs.Cmp.Lexicographic.{bytes_decides}
use Rattle.std.specs.List.{HoldsAt, insert}
use Rattle.std.specs.Option.{MatchOption}
use Rattle.std.proofs.Math.Seq.{lt-length-set}
use Rattle.std.proofs.lemmas.List.{get_or-set_same}
use Rattle.gq_project.specs.Helping.Places.{IsPlaceOf, IsGapFor}
use Rattle.gq_project.proofs.Keys.{Ascend-with_item, Ascend-without_item, set_with_item, insert_with_item}
use Rattle.gq_text.specs.declared.place.PositionEncoding.{PositionEncoding}
use Rattle.gq_rpc.specs.declared.messages.DidChangeParams.{DidChangeParams}
use Rattle.gq_events.specs.declared.documents.SessionDocument.{SessionDocument}
use Rattle.gq_events.specs.Documents.{IsInOrder, has_key, document_at, has_document, with_document, with_changed, document_with, edited, edited_in, EditsAt}

abbrev pub key_of : SessionDocument → List ℕ
key_of document = document.key

pub IsInOrder-with_document : (documents : List SessionDocument) (document : SessionDocument) → IsInOrder documents → IsInOrder (with_document documents document)
IsInOrder-with_document = Ascend-with_item key_of

pub IsInOrder-without : (documents : List SessionDocument) (key : List ℕ) → IsInOrder documents → IsInOrder (with_changed documents key None)
IsInOrder-without = Ascend-without_item key_of

pub set_with_document : (documents : List SessionDocument) (key : List ℕ) (i : ℕ) (document : SessionDocument) → IsPlaceOf key_of key documents i → key ≡ document.key → set documents i document ≡ with_document documents document
set_with_document = set_with_item key_of

pub insert_with_document : (documents : List SessionDocument) (key : List ℕ) (i : ℕ) (document : SessionDocument) → IsGapFor key_of key documents i → key ≡ document.key → insert documents i document ≡ with_document documents document
insert_with_document = insert_with_item key_of

-- whether a search found the key
pub has_document_where : (r : Result ℕ ℕ) (documents : List SessionDocument) (key : List ℕ) → IfOk r (IsPlaceOf key_of key documents) → IfErr r (IsGapFor key_of key documents) → is_ok r ≡ has_document key documents
has_document_where (Ok i) [] key place gap = absurd (let below = place.in_range in omega arith)
has_document_where (Ok i) (d ∷ ds) key place gap = sym (ap is_some (place.here d))
has_document_where (Err i) documents key place gap = sym (ap is_some gap.none)

found_by : (b : Bool) (key : List ℕ) (d x : SessionDocument) (ds : List SessionDocument) → has_key key d ≡ b → (find (has_key key) ds ≡ Some x → key ≡ x.key) → cond b (Some d) (find (has_key key) ds) ≡ Some x → key ≡ x.key
found_by true key d x ds h rest e = let same : d.key ≡ key = (bytes_decides d.key key).0 h in let it : d ≡ x = cc in sym same ∙ ap key_of it
found_by false key d x ds h rest e = rest e

-- the document that is found has the key
pub found_key : (documents : List SessionDocument) (key : List ℕ) (x : SessionDocument) → document_at key documents ≡ Some x → key ≡ x.key
found_key [] key x e = absurd (cc)
found_key (d ∷ ds) key x e = found_by (has_key key d) key d x ds refl (found_key ds key x) e

-- the document at the place of a key is found by it
pub found_at : (inside documents : List SessionDocument) (key of : List ℕ) (i : ℕ) (x y : SessionDocument) → inside ≡ documents → key ≡ of → IsPlaceOf key_of key documents i → y ≡ x → x ≡ get_or inside i x → Some y ≡ document_at of documents
found_at inside documents key of i x y view same place is_x here =
    ap (λ (d : SessionDocument). Some d) (is_x ∙ (here ∙ ap (λ (ds : List SessionDocument). get_or ds i x) view)) ∙ (sym (place.here x) ∙ ap (λ (k : List ℕ). document_at k documents) same)

pub not_found : (documents : List SessionDocument) (key of : List ℕ) (i : ℕ) → key ≡ of → IsGapFor key_of key documents i → None ≡ document_at of documents
not_found documents key of i same gap = sym gap.none ∙ ap (λ (k : List ℕ). document_at k documents) same

-- ---- the document of a key is edited in its place

pub with_key : (key uri : List ℕ) (version : Option ℤ) (text : Option (List ℕ)) → (document_with key uri version text).key ≡ key
with_key key uri version None = refl
with_key key uri version (Some text) = refl

module _ (encoding : PositionEncoding) (documents : List SessionDocument) (params : DidChangeParams) (i : ℕ) (old new : SessionDocument) (refused : Bool) (place : IsPlaceOf key_of params.key documents i) (is_old : old ≡ get_or documents i old) (is : new ≡ edited encoding old params refused) where
  here : document_at params.key documents ≡ Some old
  here = place.here old ∙ ap (λ (d : SessionDocument). Some d) (sym is_old)

  new_key : params.key ≡ new.key
  new_key = found_key documents params.key old here ∙ (sym (with_key old.key old.uri _ _) ∙ ap key_of (sym is))

  changed_here : edited_in encoding documents params refused ≡ Some new
  changed_here = ap (option_map (λ document. edited encoding document params refused)) here ∙ ap (λ (d : SessionDocument). Some d) (sym is)

  edited_here : set documents i new ≡ with_changed documents params.key (edited_in encoding documents params refused)
  edited_here = set_with_document documents params.key i new place new_key ∙ ap (with_changed documents params.key) (sym changed_here)

  in_order_here : IsInOrder documents → IsInOrder (set documents i new)
  in_order_here h = subst IsInOrder (sym (set_with_document documents params.key i new place new_key)) (IsInOrder-with_document documents new h)

-- as the code reads it: the list inside is the documents, and the key that was sought that of the edit
module _ (encoding : PositionEncoding) (inside documents : List SessionDocument) (view : inside ≡ documents) (params : DidChangeParams) (key : List ℕ) (is_key : key ≡ params.key) (i : ℕ) (place : IsPlaceOf key_of key documents i) (old new : SessionDocument)
    (is_old : old ≡ get_or inside i old) (is : (refused : Bool) × (new ≡ edited encoding old params refused)) where
  place_of_key : IsPlaceOf key_of params.key documents i
  place_of_key = subst (λ (k : List ℕ). IsPlaceOf key_of k documents i) is_key place

  old_here : old ≡ get_or documents i old
  old_here = subst (λ (ds : List SessionDocument). old ≡ get_or ds i old) view is_old

  pub still_in_order : IsInOrder inside → IsInOrder (set inside i new)
  still_in_order h =
      subst (λ (ds : List SessionDocument). IsInOrder (set ds i new)) (sym view) (in_order_here encoding documents params i old new is.0 place_of_key old_here is.1 (subst IsInOrder view h))

  within : i < length inside
  within = subst (λ (ds : List SessionDocument). i < length ds) (sym view) place.in_range

  pub edits : EditsAt encoding documents params (set inside i new) (Some i)
  edits = (
    is.0,
    ap (λ (ds : List SessionDocument). set ds i new) view ∙ edited_here encoding documents params i old new is.0 place_of_key old_here is.1,
    (
      lt-length-set inside i new within,
      λ d. changed_here encoding documents params i old new is.0 place_of_key old_here is.1 ∙ ap (λ (x : SessionDocument). Some x) (sym (get_or-set_same inside i new d within)),
    ),
  )

-- none has the key, so nothing is changed
pub edits_nothing : (encoding : PositionEncoding) (documents : List SessionDocument) (params : DidChangeParams) (key : List ℕ) (i : ℕ) → key ≡ params.key → IsGapFor key_of key documents i → EditsAt encoding documents params documents None
edits_nothing encoding documents params key i is_key gap =
    let at : IsGapFor key_of params.key documents i = subst (λ (k : List ℕ). IsGapFor key_of k documents i) is_key gap in
    let none : edited_in encoding documents params false ≡ None = ap (option_map (λ document. edited encoding document params false)) at.none in
    (false, at.others ∙ ap (with_changed documents params.key) (sym none), none)
