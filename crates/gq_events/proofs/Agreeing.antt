-- Documents that are the same.
use Rattle.std.proofs.Common.{◌≡◌, ◌≢◌, ℕ, suc, ◌+◌, ◌<◌, Bool, true, false, ◌&&◌, List, [], ◌∷◌, length, drop, get_or, ap, sym, refl, ◌∙◌, arith, add-one}
use Rattle.std.proofs.Math.Seq.{drop-cons}
use Rattle.std.proofs.lemmas.List.{length-map, get_or-map}
use Rattle.gq_project.specs.declared.document.Doc.{Doc}
use Rattle.gq_events.specs.declared.documents.SessionDocument.{SessionDocument}
use Rattle.gq_events.specs.Documents.{doc_of, docs_of}
use Rattle.gq_events.specs.Tasks.{same_doc, same_docs}

no_longer : (b rest : Bool) → rest ≡ false → (b && rest) ≡ false
no_longer true rest e = e
no_longer false rest e = refl

differ : (as_ bs : List Doc) → length as_ ≢ length bs → same_docs as_ bs ≡ false
differ [] [] h = absurd (h refl)
differ [] (b ∷ bs) h = refl
differ (a ∷ as_) [] h = refl
differ (a ∷ as_) (b ∷ bs) h = no_longer (same_doc a b) _ (differ as_ bs (λ e. h (ap suc e)))

-- there are as many texts as documents where they are the same
pub as_many : (texts : List Doc) (documents : List SessionDocument) → length texts ≢ length documents → same_docs texts (docs_of documents) ≡ false
as_many texts documents h = differ texts (docs_of documents) (λ e. h (e ∙ length-map documents doc_of))

-- what is left from a place on decides
abbrev pub Decides : List Doc → List SessionDocument → ℕ → Type 0
Decides texts documents i = same_docs texts (docs_of documents) ≡ same_docs (drop i texts) (drop i (docs_of documents))

further : (as_ bs : List Doc) (i : ℕ) (d e : Doc) → i < length as_ → i < length bs
    → same_docs (drop i as_) (drop i bs) ≡ (same_doc (get_or as_ i d) (get_or bs i e) && same_docs (drop (i + 1) as_) (drop (i + 1) bs))
further as_ bs i d e h k = rw (add-one, drop-cons as_ i d h, drop-cons bs i e k) refl

-- one place further
step : (texts : List Doc) (documents : List SessionDocument) (i : ℕ) (d : Doc) (e : SessionDocument) (b : Bool) → i < length texts → length texts ≡ length documents
    → d ≡ get_or texts i d → e ≡ get_or documents i e → Decides texts documents i → b ≡ same_doc d (doc_of e)
    → same_docs texts (docs_of documents) ≡ (b && same_docs (drop (i + 1) texts) (drop (i + 1) (docs_of documents)))
step texts documents i d e b within long at_texts at_documents decides is =
    decides
    ∙ (further texts (docs_of documents) i d (doc_of e) within (let many = length-map documents doc_of in omega arith)
    ∙ ap (λ t. t && same_docs (drop (i + 1) texts) (drop (i + 1) (docs_of documents)))
    (ap (λ x. same_doc x (get_or (docs_of documents) i (doc_of e))) (sym at_texts)
    ∙ (ap (same_doc d) (get_or-map doc_of documents i e (doc_of e) (omega arith) ∙ ap doc_of (sym at_documents)) ∙ sym is)))

-- the two at a place are the same, or differ
pub same_here : (texts : List Doc) (documents : List SessionDocument) (i : ℕ) (d : Doc) (e : SessionDocument) (b : Bool) → i < length texts → length texts ≡ length documents
    → d ≡ get_or texts i d → e ≡ get_or documents i e → Decides texts documents i → b ≡ same_doc d (doc_of e) → b ≡ true → Decides texts documents (i + 1)
same_here texts documents i d e b within long at_texts at_documents decides is so =
    step texts documents i d e b within long at_texts at_documents decides is ∙ ap (λ b. b && same_docs (drop (i + 1) texts) (drop (i + 1) (docs_of documents))) so

pub other_here : (texts : List Doc) (documents : List SessionDocument) (i : ℕ) (d : Doc) (e : SessionDocument) (b : Bool) → i < length texts → length texts ≡ length documents
    → d ≡ get_or texts i d → e ≡ get_or documents i e → Decides texts documents i → b ≡ same_doc d (doc_of e) → b ≡ false → same_docs texts (docs_of documents) ≡ false
other_here texts documents i d e b within long at_texts at_documents decides is so =
    step texts documents i d e b within long at_texts at_documents decides is ∙ ap (λ b. b && same_docs (drop (i + 1) texts) (drop (i + 1) (docs_of documents))) so
