-- A change of a document leaves the others as they are.
use Rattle.std.proofs.Common.{◌≡◌, ◌≢◌, ℕ, Bool, List, Option, Some, None, refl, sym, ◌∙◌, ap}
use Rattle.std.specs.Prelude.{find, option_map}
use Rattle.gq_text.specs.declared.place.PositionEncoding.{PositionEncoding}
use Rattle.gq_project.specs.declared.document.Doc.{Doc}
use Rattle.gq_project.specs.Documents as project
use Rattle.gq_project.proofs.Keys.{find-with_item_other, find-without_item_other}
use Rattle.gq_rpc.specs.declared.messages.DidChangeParams.{DidChangeParams}
use Rattle.gq_events.specs.declared.documents.SessionDocument.{SessionDocument}
use Rattle.gq_events.specs.declared.event.LoadedContent.{LoadedContent}
use Rattle.gq_events.specs.declared.event.LoadedContent.TheVariants as content
use Rattle.gq_events.specs.declared.effect.Change.{Change}
use Rattle.gq_events.specs.declared.effect.Change.TheVariants as change
use Rattle.gq_events.specs.declared.effect.Effect.{Effect}
use Rattle.gq_events.specs.declared.effect.Effect.TheVariants as effect
use Rattle.gq_events.specs.Documents.{doc_of, docs_of, document_at, opened_text, loaded_as, edited, changed, key_of, with_changed, published}
use Rattle.gq_events.specs.Keeping.{KeepingOf, AgreeBut, IsKeptOf}
use Rattle.gq_events.specs.Rules.{Session, changed_by, session_after}
use Rattle.gq_events.proofs.Keyed.{found_key, with_key}
use Rattle.gq_events.proofs.Publishing.{published_is}

-- the document that a change leaves has its key
abbrev HasKey : List ℕ → Option SessionDocument → Type 0
HasKey key None = Unit {0}
HasKey key (Some document) = key ≡ document.key

found_at : (key : List ℕ) (documents : List SessionDocument) (document : Option SessionDocument) → document_at key documents ≡ document → HasKey key document
found_at key documents None is = tt
found_at key documents (Some document) is = found_key documents key document is

edited_at : (encoding : PositionEncoding) (params : DidChangeParams) (refused : Bool) (document : Option SessionDocument) → HasKey params.key document → HasKey params.key (option_map (λ d. edited encoding d params refused) document)
edited_at encoding params refused None h = tt
edited_at encoding params refused (Some document) h = h ∙ sym (with_key document.key document.uri _ _)

loaded_at : (key uri : List ℕ) (content : LoadedContent) → HasKey key (loaded_as key uri content)
loaded_at key uri (content.Text text) = sym (with_key key uri None (opened_text text))
loaded_at key uri content.Unfit = sym (with_key key uri None None)
loaded_at key uri content.Gone = tt

changed_at : (encoding : PositionEncoding) (documents behind : List SessionDocument) (c : Change) (refused : Bool) → HasKey (key_of c) (changed encoding documents behind c refused)
changed_at encoding documents behind (change.Open item) refused = sym (with_key item.key item.uri _ _)
changed_at encoding documents behind (change.Edit params) refused = edited_at encoding params refused (document_at params.key documents) (found_at params.key documents (document_at params.key documents) refl)
changed_at encoding documents behind (change.Close key) refused = found_at key behind (document_at key behind) refl
changed_at encoding documents behind (change.Load load) refused = loaded_at load.key load.uri load.content

-- other keys find what they found
elsewhere : (docs : List Doc) (key other : List ℕ) (document : Option SessionDocument) → HasKey key document → other ≢ key
    → find (project.has_key other) (project.after_change docs (published key document)) ≡ find (project.has_key other) docs
elsewhere docs key other None h differs = find-without_item_other (λ (d : Doc). d.key) docs key other differs
elsewhere docs key other (Some document) h differs = find-with_item_other (λ (d : Doc). d.key) docs (doc_of document) other (λ e. differs (e ∙ sym h))

pub others_stay : (encoding : PositionEncoding) (documents behind : List SessionDocument) (c : Change) (refused : Bool) (other : List ℕ) → other ≢ key_of c
    → find (project.has_key other) (docs_of (with_changed documents (key_of c) (changed encoding documents behind c refused))) ≡ find (project.has_key other) (docs_of documents)
others_stay encoding documents behind c refused other differs =
    ap (find (project.has_key other)) (published_is documents (key_of c) (changed encoding documents behind c refused))
    ∙ elsewhere (docs_of documents) (key_of c) other (changed encoding documents behind c refused) (changed_at encoding documents behind c refused) differs
