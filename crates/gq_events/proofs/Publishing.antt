-- What is published is what changes.
use Rattle.std.proofs.Common.{◌≡◌, ℕ, not, List, ◌∷◌, ◌++◌, Option, Some, None, ap, ◌∙◌}
use Rattle.std.specs.Prelude.{filter}
use Rattle.std.proofs.lemmas.List.{map-append}
use Rattle.gq_project.specs.declared.document.Doc.{Doc}
use Rattle.gq_project.specs.Documents as project
use Rattle.gq_events.specs.declared.documents.SessionDocument.{SessionDocument}
use Rattle.gq_events.specs.declared.effect.Change.{Change}
use Rattle.gq_events.specs.declared.effect.Effect.{Effect}
use Rattle.gq_events.specs.declared.effect.Effect.TheVariants as effect
use Rattle.gq_events.specs.Documents.{doc_of, docs_of, is_before, is_after, with_changed, key_of, published}
use Rattle.gq_events.specs.Rules.{Session, session_after}
use Rattle.gq_events.specs.History.{session_at, effect_at, changed_at}
use Rattle.gq_events.specs.Laws.{ChangesArePublished}
use Rattle.gq_events.proofs.Lists.{map_filter}

pub published_is : (documents : List SessionDocument) (key : List ℕ) (document : Option SessionDocument)
    → docs_of (with_changed documents key document) ≡ project.after_change (docs_of documents) (published key document)
published_is documents key None = map_filter doc_of (λ doc. not (project.has_key key doc)) documents
published_is documents key (Some document) =
    map-append doc_of (filter (is_before document.key) documents) (document ∷ filter (is_after document.key) documents)
    ∙ joined (map_filter doc_of (project.is_before document.key) documents) (map_filter doc_of (project.is_after document.key) documents)
  where
    joined : {a a' b b' : List Doc} → a ≡ a' → b ≡ b' → a ++ doc_of document ∷ b ≡ a' ++ doc_of document ∷ b'
    joined e f = cc

after_changes : (s : Session) (e : Effect) (document : Option SessionDocument) (c : Change) → e ≡ effect.Changes c
    → docs_of (session_after s e document).documents ≡ docs_of (with_changed s.documents (key_of c) document)
after_changes s e document c is = ap (λ (x : Effect). docs_of (session_after s x document).documents) is

pub changes_are_published : ChangesArePublished
changes_are_published events j c is =
    after_changes (session_at events j) (effect_at events j) (changed_at events j) c is ∙ published_is (session_at events j).documents (key_of c) (changed_at events j)
