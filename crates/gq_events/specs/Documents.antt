-- The documents of a session: those that its client has open (LSP 3.17, "Text Document Synchronization"), and those that were loaded from a
-- folder.
use Rattle.std.specs.Prelude.{◌≡◌, ℕ, ◌<◌, ◌^◌, Bool, true, false, not, ◌||◌, ◌&&◌, nat_lt, nat_le, List, [], ◌∷◌, ◌++◌, length, map, filter, find, Option, Some, None, is_some, option_map, ℤ, if◌then◌else◌}
use Rattle.std.specs.Cmp.Lexicographic.{slice_cmp}
use Rattle.std.specs.List.{list_any, HoldsAt}
use Rattle.std.specs.Option.{MatchOption, option_map_or, option_or}
use Rattle.std.specs.List.Sorted.{IsStrictlySortedBy}
use Rattle.std.specs.Ordering.{nat_cmp, is_lt, is_gt}
use Rattle.std.specs.Str.{bytes_eq}
use Rattle.gq_text.specs.Change.{after_change, after_changes}
use Rattle.gq_text.specs.declared.place.PositionEncoding.{PositionEncoding}
use Rattle.gq_text.specs.declared.text.Change as text
use Rattle.gq_project.specs.declared.document.Doc.{Doc}
use Rattle.gq_project.specs.declared.document.DocChange.{DocChange}
use Rattle.gq_project.specs.declared.document.DocChange.TheVariants as doc_change
use Rattle.gq_rpc.specs.declared.messages.TextDocumentItem.{TextDocumentItem}
use Rattle.gq_rpc.specs.declared.messages.DidChangeParams.{DidChangeParams}
use Rattle.gq_events.specs.declared.documents.SessionDocument.{SessionDocument}
use Rattle.gq_events.specs.declared.event.Load.{Load}
use Rattle.gq_events.specs.declared.event.LoadedContent.{LoadedContent}
use Rattle.gq_events.specs.declared.event.LoadedContent.TheVariants as content
use Rattle.gq_events.specs.declared.effect.Change.{Change}
use Rattle.gq_events.specs.declared.effect.Change.TheVariants as change

-- the keys ascend by their bytes, so no key comes twice
abbrev pub IsInOrder : List SessionDocument → Type 0
IsInOrder documents = IsStrictlySortedBy (λ a b. slice_cmp nat_cmp a.key b.key) documents

-- the document of a key, open or loaded
abbrev pub has_key : List ℕ → SessionDocument → Bool
has_key key document = bytes_eq document.key key

abbrev pub document_at : List ℕ → List SessionDocument → Option SessionDocument
document_at key documents = find (has_key key) documents

abbrev pub has_document : List ℕ → List SessionDocument → Bool
has_document key documents = is_some (document_at key documents)

-- an open document has a version, and a loaded one has none
abbrev pub is_open : List ℕ → List SessionDocument → Bool
is_open key documents = option_map_or (λ document. is_some document.version) (document_at key documents) false

-- some document's text is not known
abbrev pub is_any_lost : List SessionDocument → Bool
is_any_lost documents = list_any (λ document. document.lost) documents

-- the documents as a question is about them
abbrev pub doc_of : SessionDocument → Doc
doc_of document = record { key = document.key; uri = document.uri; version = document.version; text = document.text }

abbrev pub docs_of : List SessionDocument → List Doc
docs_of documents = map doc_of documents

-- ---- changes

-- so many documents there may be, open and loaded together
abbrev pub documents_max : ℕ
documents_max = 4096

-- whether there is a document of the key, or there may be one more
abbrev pub has_room_for : List ℕ → List SessionDocument → Bool
has_room_for key documents = has_document key documents || nat_lt (length documents) documents_max

-- Whether a change is one of the documents: an edit and a close of a document that is not open are none, nor is an open where there may be no more
-- documents. What is loaded of a document that is open comes behind it, and changes nothing yet.
abbrev pub is_change : List SessionDocument → Change → Bool
is_change documents (change.Open item) = has_room_for item.key documents
is_change documents (change.Edit params) = is_open params.key documents
is_change documents (change.Close key) = is_open key documents
is_change documents (change.Load load) = not (is_open load.key documents)

abbrev pub key_of : Change → List ℕ
key_of (change.Open item) = item.key
key_of (change.Edit params) = params.key
key_of (change.Close key) = key
key_of (change.Load load) = load.key

-- what is loaded is a document more than there may be: one of a key that none has, where there may be no more
abbrev pub is_there : LoadedContent → Bool
is_there (content.Text text) = true
is_there content.Unfit = true
is_there content.Gone = false

abbrev pub is_one_too_many : List SessionDocument → Load → Bool
is_one_too_many documents load = is_there load.content && not (has_room_for load.key documents)

-- a text may have 4 MiB
abbrev pub fits : List ℕ → Bool
fits text = nat_le (length text) (2 ^ 22)

-- each change leaves a text that fits
abbrev pub fit_each : PositionEncoding → List ℕ → List text.Change → Bool
fit_each encoding text [] = true
fit_each encoding text (c ∷ cs) = fits (after_change encoding text c) && fit_each encoding (after_change encoding text c) cs

-- the text that a document has when it is opened, if it can be kept
abbrev pub opened_text : List ℕ → Option (List ℕ)
opened_text text = if fits text then Some text else None

-- the changes, where all that a didChange tells can be read
abbrev pub changes_in : DidChangeParams → Option (List text.Change)
changes_in params = if is_some params.version then params.changes else None

-- the text that a document has after them, if it was known, they can be read and each of them leaves one that can be kept
abbrev pub edited_text : PositionEncoding → SessionDocument → Option (List text.Change) → Option (List ℕ)
edited_text encoding document None = None
edited_text encoding document (Some changes) =
    if not document.lost && fit_each encoding document.text changes then Some (after_changes encoding document.text changes) else None

-- a document with a text, or lost: then it stands with the empty one
abbrev pub document_with : List ℕ → List ℕ → Option ℤ → Option (List ℕ) → SessionDocument
document_with key uri version None = record { key = key; uri = uri; version = version; text = []; lost = true }
document_with key uri version (Some text) = record { key = key; uri = uri; version = version; text = text; lost = false }

abbrev pub opened : TextDocumentItem → SessionDocument
opened item = document_with item.key item.uri (Some item.version) (opened_text item.text)

-- the document that is loaded, if there is one: lost, where its content is no text that can be kept
abbrev pub loaded_as : List ℕ → List ℕ → LoadedContent → Option SessionDocument
loaded_as key uri (content.Text text) = Some (document_with key uri None (opened_text text))
loaded_as key uri content.Unfit = Some (document_with key uri None None)
loaded_as key uri content.Gone = None

abbrev pub loaded : Load → Option SessionDocument
loaded load = loaded_as load.key load.uri load.content

-- a text is lost, too, where its changes were refused memory
abbrev pub unless_refused : Bool → Option (List ℕ) → Option (List ℕ)
unless_refused refused text = if refused then None else text

-- a version that cannot be read stays as it was
abbrev pub edited : PositionEncoding → SessionDocument → DidChangeParams → Bool → SessionDocument
edited encoding document params refused =
    document_with document.key document.uri (option_or params.version document.version)
    (unless_refused refused (edited_text encoding document (changes_in params)))

-- the document of its key after an edit, if there is one
abbrev pub edited_in : PositionEncoding → List SessionDocument → DidChangeParams → Bool → Option SessionDocument
edited_in encoding documents params refused = option_map (λ document. edited encoding document params refused) (document_at params.key documents)

-- The document that a change leaves, if it leaves one; refused says that the changes of its text were refused memory. Behind open documents are
-- those that were loaded: one that is closed leaves the one behind it.
abbrev pub changed : PositionEncoding → (documents behind : List SessionDocument) → Change → Bool → Option SessionDocument
changed encoding documents behind (change.Open item) refused = Some (opened item)
changed encoding documents behind (change.Edit params) refused = edited_in encoding documents params refused
changed encoding documents behind (change.Close key) refused = document_at key behind
changed encoding documents behind (change.Load load) refused = loaded load

-- the document's key comes before this one, after it
abbrev pub is_before : List ℕ → SessionDocument → Bool
is_before key document = is_lt (slice_cmp nat_cmp document.key key)

abbrev pub is_after : List ℕ → SessionDocument → Bool
is_after key document = is_gt (slice_cmp nat_cmp document.key key)

-- the documents with this one in its place, where it replaces the one of its key
abbrev pub with_document : List SessionDocument → SessionDocument → List SessionDocument
with_document documents document = filter (is_before document.key) documents ++ document ∷ filter (is_after document.key) documents

-- the documents without that of the key, or with the one that a change leaves
abbrev pub with_changed : List SessionDocument → List ℕ → Option SessionDocument → List SessionDocument
with_changed documents key None = filter (λ document. not (has_key key document)) documents
with_changed documents key (Some document) = with_document documents document

-- the documents behind open ones, with one that an open document comes before, if one was loaded
abbrev pub with_behind : List SessionDocument → Option SessionDocument → List SessionDocument
with_behind behind None = behind
with_behind behind (Some document) = if is_some document.version then behind else with_document behind document

-- and after a change
abbrev pub behind_after : (documents behind : List SessionDocument) → Change → List SessionDocument
behind_after documents behind (change.Open item) = with_behind behind (document_at item.key documents)
behind_after documents behind (change.Edit params) = behind
behind_after documents behind (change.Close key) = with_changed behind key None
behind_after documents behind (change.Load load) = behind

-- what an edit leaves, and where the document is that it edits; refused says that the changes of its text were refused memory
abbrev pub EditsAt : PositionEncoding → List SessionDocument → DidChangeParams → List SessionDocument → Option ℕ → Type 0
EditsAt encoding old params new at =
    (refused : Bool) × (new ≡ with_changed old params.key (edited_in encoding old params refused))
    × MatchOption at (edited_in encoding old params refused ≡ None) (λ i. (i < length new) × HoldsAt (λ document. edited_in encoding old params refused ≡ Some document) new i)

-- what workers are to see changed
abbrev pub published : List ℕ → Option SessionDocument → DocChange
published key None = doc_change.Close key
published key (Some document) = doc_change.Put (doc_of document)
