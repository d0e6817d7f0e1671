-- The documents stay in order, their texts short, and lost ones empty.
use Rattle.std.proofs.Common.{◌≡◌, ℕ, zero, suc, ◌≤◌, ◌^◌, ℤ, Bool, true, false, cond, not, ◌&&◌, List, [], ◌∷◌, length, Option, Some, None, is_some, refl, arith}
use Rattle.std.specs.Prelude.{filter, find, option_map}
use Rattle.std.specs.List.{AllByRecursion}
use Rattle.std.specs.List.Sorted.{IsStrictlySortedBy}
use Rattle.std.specs.Cmp.Lexicographic.{slice_cmp}
use Rattle.std.specs.Ordering.{nat_cmp}
use Rattle.std.specs.declared.cmp.Ordering.TheVariants.{Less}
use Rattle.std.proofs.lemmas.Bool.Decides.{nat_tests}
use Rattle.gq_text.specs.declared.place.PositionEncoding.{PositionEncoding}
use Rattle.gq_text.specs.Change.{after_change, after_changes, FitEach}
use Rattle.gq_text.specs.declared.text.Change as text
use Rattle.gq_edit.specs.Workspace.{AreTexts}
use Rattle.gq_project.specs.declared.document.Doc.{Doc}
use Rattle.gq_project.specs.Documents as project
use Rattle.gq_project.proofs.Keys.{Ascend-with_item, Ascend-without_item}
use Rattle.gq_rpc.specs.declared.messages.DidChangeParams.{DidChangeParams}
use Rattle.gq_events.specs.declared.documents.SessionDocument.{SessionDocument}
use Rattle.gq_events.specs.declared.event.LoadedContent.{LoadedContent}
use Rattle.gq_events.specs.declared.event.LoadedContent.TheVariants as content
use Rattle.gq_events.specs.declared.effect.Change.{Change}
use Rattle.gq_events.specs.declared.effect.Change.TheVariants as change
use Rattle.gq_events.specs.declared.effect.Effect.{Effect}
use Rattle.gq_events.specs.declared.effect.Effect.TheVariants as effect
use Rattle.gq_events.specs.Documents.{docs_of, IsInOrder, has_key, document_at, key_of, fits, fit_each, opened_text, changes_in, edited_text, document_with, loaded_as, loaded, unless_refused, edited, changed, is_before, is_after, with_document, with_changed, with_behind, behind_after}
use Rattle.gq_events.specs.Rules.{Turn, Session, changed_by, session_after, session_changed}
use Rattle.gq_events.specs.History.{session_at, effect_at, turn_at}
use Rattle.gq_events.specs.Laws.{AreKept, DocumentsAreKept, AreBehind, DocumentsBehindAreKept}
use Rattle.gq_events.proofs.Lists.{both, kept}

and_true : (a b : Bool) → (a && b) ≡ true → (a ≡ true) × (b ≡ true)
and_true true b h = (refl, h)
and_true false b h = absurd (cc)

both_true : (a b : Bool) → a ≡ true → b ≡ true → (a && b) ≡ true
both_true a b e h = rw (e, h) refl

-- ---- texts that fit

pub fits_is : (t : List ℕ) → fits t ≡ true → length t ≤ 2 ^ 22
fits_is t h = grind (arith, nat_tests)

pub is_fits : (t : List ℕ) → length t ≤ 2 ^ 22 → fits t ≡ true
is_fits t h = grind (arith, nat_tests)

-- the test is the definition's
pub fit_each_is : (encoding : PositionEncoding) (t : List ℕ) (cs : List text.Change) → fit_each encoding t cs ≡ true → FitEach encoding t cs
fit_each_is encoding t [] h = tt
fit_each_is encoding t (c ∷ cs) h =
    let parts = and_true (fits (after_change encoding t c)) (fit_each encoding (after_change encoding t c) cs) h in
    (fits_is (after_change encoding t c) parts.0, fit_each_is encoding (after_change encoding t c) cs parts.1)

pub is_fit_each : (encoding : PositionEncoding) (t : List ℕ) (cs : List text.Change) → FitEach encoding t cs → fit_each encoding t cs ≡ true
is_fit_each encoding t [] h = refl
is_fit_each encoding t (c ∷ cs) h = both_true (fits (after_change encoding t c)) (fit_each encoding (after_change encoding t c) cs) (is_fits (after_change encoding t c) h.0) (is_fit_each encoding (after_change encoding t c) cs h.1)

not_fit_each : (b : Bool) → (b ≡ true → ⊥) → b ≡ false
not_fit_each true h = absurd (h refl)
not_fit_each false h = refl

pub is_not_fit_each : (encoding : PositionEncoding) (t : List ℕ) (cs : List text.Change) → (FitEach encoding t cs → ⊥) → fit_each encoding t cs ≡ false
is_not_fit_each encoding t cs h = not_fit_each (fit_each encoding t cs) (λ e. h (fit_each_is encoding t cs e))

changed_fits : (encoding : PositionEncoding) (t : List ℕ) (cs : List text.Change) → length t ≤ 2 ^ 22 → FitEach encoding t cs → length (after_changes encoding t cs) ≤ 2 ^ 22
changed_fits encoding t [] h f = h
changed_fits encoding t (c ∷ cs) h f = changed_fits encoding (after_change encoding t c) cs f.0 f.1

-- ---- one document

abbrev IsShort : SessionDocument → Type 0
IsShort document = length document.text ≤ 2 ^ 22

abbrev IsEmptyIfLost : SessionDocument → Type 0
IsEmptyIfLost document = document.lost ≡ true → document.text ≡ []

abbrev IsShortIfAny : Option (List ℕ) → Type 0
IsShortIfAny None = Unit {0}
IsShortIfAny (Some t) = length t ≤ 2 ^ 22

short_unless : (refused : Bool) (t : Option (List ℕ)) → IsShortIfAny t → IsShortIfAny (unless_refused refused t)
short_unless true t h = tt
short_unless false t h = h

short_with : (key uri : List ℕ) (version : Option ℤ) (t : Option (List ℕ)) → IsShortIfAny t → IsShort (document_with key uri version t)
short_with key uri version None h = omega arith
short_with key uri version (Some t) h = h

empty_with : (key uri : List ℕ) (version : Option ℤ) (t : Option (List ℕ)) → IsEmptyIfLost (document_with key uri version t)
empty_with key uri version None h = refl
empty_with key uri version (Some t) h = absurd (cc)

opened_if : (b : Bool) (t : List ℕ) → (b ≡ true → length t ≤ 2 ^ 22) → IsShortIfAny (cond b (Some t) None)
opened_if true t h = h refl
opened_if false t h = tt

edited_if : (b : Bool) (t : List ℕ) → (b ≡ true → length t ≤ 2 ^ 22) → IsShortIfAny (cond b (Some t) None)
edited_if true t h = h refl
edited_if false t h = tt

short_edited : (encoding : PositionEncoding) (document : SessionDocument) (cs : Option (List text.Change)) → IsShort document → IsShortIfAny (edited_text encoding document cs)
short_edited encoding document None h = tt
short_edited encoding document (Some cs) h =
    edited_if (not document.lost && fit_each encoding document.text cs) (after_changes encoding document.text cs)
    (λ e. changed_fits encoding document.text cs h (fit_each_is encoding document.text cs (and_true (not document.lost) (fit_each encoding document.text cs) e).1))

abbrev OfAny : (SessionDocument → Type 0) → Option SessionDocument → Type 0
OfAny P None = Unit {0}
OfAny P (Some document) = P document

found_if : (P : SessionDocument → Type 0) (b : Bool) (document : SessionDocument) (rest : Option SessionDocument) → P document → OfAny P rest → OfAny P (cond b (Some document) rest)
found_if P true document rest h k = h
found_if P false document rest h k = k

found : (P : SessionDocument → Type 0) (p : SessionDocument → Bool) (documents : List SessionDocument) → AllByRecursion P documents → OfAny P (find p documents)
found P p [] h = tt
found P p (document ∷ documents) h = found_if P (p document) document (find p documents) h.0 (found P p documents h.1)

short_found : (encoding : PositionEncoding) (params : DidChangeParams) (refused : Bool) (document : Option SessionDocument) → OfAny IsShort document → OfAny IsShort (option_map (λ d. edited encoding d params refused) document)
short_found encoding params refused None h = tt
short_found encoding params refused (Some document) h =
    short_with document.key document.uri _ _ (short_unless refused (edited_text encoding document (changes_in params)) (short_edited encoding document (changes_in params) h))

short_text : (text : List ℕ) → IsShortIfAny (opened_text text)
short_text text = opened_if (fits text) text (fits_is text)

short_loaded : (key uri : List ℕ) (content : LoadedContent) → OfAny IsShort (loaded_as key uri content)
short_loaded key uri (content.Text text) = short_with key uri None (opened_text text) (short_text text)
short_loaded key uri content.Unfit = short_with key uri None None tt
short_loaded key uri content.Gone = tt

short_changed : (encoding : PositionEncoding) (documents behind : List SessionDocument) (c : Change) (refused : Bool) → AllByRecursion IsShort documents → AllByRecursion IsShort behind
    → OfAny IsShort (changed encoding documents behind c refused)
short_changed encoding documents behind (change.Open item) refused h k = short_with item.key item.uri (Some item.version) (opened_text item.text) (short_text item.text)
short_changed encoding documents behind (change.Edit params) refused h k = short_found encoding params refused (document_at params.key documents) (found IsShort (has_key params.key) documents h)
short_changed encoding documents behind (change.Close key) refused h k = found IsShort (has_key key) behind k
short_changed encoding documents behind (change.Load load) refused h k = short_loaded load.key load.uri load.content

empty_found : (encoding : PositionEncoding) (params : DidChangeParams) (refused : Bool) (document : Option SessionDocument) → OfAny IsEmptyIfLost (option_map (λ d. edited encoding d params refused) document)
empty_found encoding params refused None = tt
empty_found encoding params refused (Some document) = empty_with document.key document.uri _ _

empty_loaded : (key uri : List ℕ) (content : LoadedContent) → OfAny IsEmptyIfLost (loaded_as key uri content)
empty_loaded key uri (content.Text text) = empty_with key uri None (opened_text text)
empty_loaded key uri content.Unfit = empty_with key uri None None
empty_loaded key uri content.Gone = tt

empty_changed : (encoding : PositionEncoding) (documents behind : List SessionDocument) (c : Change) (refused : Bool) → AllByRecursion IsEmptyIfLost behind → OfAny IsEmptyIfLost (changed encoding documents behind c refused)
empty_changed encoding documents behind (change.Open item) refused k = empty_with item.key item.uri (Some item.version) _
empty_changed encoding documents behind (change.Edit params) refused k = empty_found encoding params refused (document_at params.key documents)
empty_changed encoding documents behind (change.Close key) refused k = found IsEmptyIfLost (has_key key) behind k
empty_changed encoding documents behind (change.Load load) refused k = empty_loaded load.key load.uri load.content

-- ---- all documents

all_with : (P : SessionDocument → Type 0) (documents : List SessionDocument) (key : List ℕ) (document : Option SessionDocument) → AllByRecursion P documents → OfAny P document → AllByRecursion P (with_changed documents key document)
all_with P documents key None h k = kept P (λ d. not (has_key key d)) documents h
all_with P documents key (Some document) h k =
    both P (filter (is_before document.key) documents) (document ∷ filter (is_after document.key) documents) (kept P (is_before document.key) documents h)
    (k, kept P (is_after document.key) documents h)

abbrev key_in : SessionDocument → List ℕ
key_in document = document.key

ordered_with : (documents : List SessionDocument) (key : List ℕ) (document : Option SessionDocument) → IsInOrder documents → IsInOrder (with_changed documents key document)
ordered_with documents key None h = Ascend-without_item key_in documents key h
ordered_with documents key (Some document) h = Ascend-with_item key_in documents document h

-- one document more, or less
pub kept_one : (documents : List SessionDocument) (key : List ℕ) (document : Option SessionDocument) → AreKept documents → OfAny IsShort document → OfAny IsEmptyIfLost document → AreKept (with_changed documents key document)
kept_one documents key document h short empty = record {
  in_order = ordered_with documents key document h.in_order;
  texts = all_with IsShort documents key document h.texts short;
  lost = all_with IsEmptyIfLost documents key document h.lost empty;
}

abbrev IsLoaded : SessionDocument → Type 0
IsLoaded document = document.version ≡ None

loaded_with : (key uri : List ℕ) (t : Option (List ℕ)) → IsLoaded (document_with key uri None t)
loaded_with key uri None = refl
loaded_with key uri (Some t) = refl

loaded_loaded : (key uri : List ℕ) (content : LoadedContent) → OfAny IsLoaded (loaded_as key uri content)
loaded_loaded key uri (content.Text text) = loaded_with key uri (opened_text text)
loaded_loaded key uri content.Unfit = loaded_with key uri None
loaded_loaded key uri content.Gone = tt

-- those behind open ones
behind_one : (behind : List SessionDocument) (key : List ℕ) (document : Option SessionDocument) → AreBehind behind → OfAny IsShort document → OfAny IsEmptyIfLost document → OfAny IsLoaded document
    → AreBehind (with_changed behind key document)
behind_one behind key document h short empty loaded = record {
  kept = kept_one behind key document h.kept short empty;
  loaded = all_with IsLoaded behind key document h.loaded loaded;
}

behind_if : (behind : List SessionDocument) (document : SessionDocument) (version : Option ℤ) → document.version ≡ version → AreBehind behind → IsShort document → IsEmptyIfLost document
    → AreBehind (cond (is_some version) behind (with_document behind document))
behind_if behind document None is h short empty = behind_one behind document.key (Some document) h short empty is
behind_if behind document (Some version) is h short empty = h

behind_with : (behind : List SessionDocument) (document : Option SessionDocument) → AreBehind behind → OfAny IsShort document → OfAny IsEmptyIfLost document → AreBehind (with_behind behind document)
behind_with behind None h short empty = h
behind_with behind (Some document) h short empty = behind_if behind document document.version refl h short empty

behind_then : (documents behind : List SessionDocument) (c : Change) → AreKept documents → AreBehind behind → AreBehind (behind_after documents behind c)
behind_then documents behind (change.Open item) h k =
    behind_with behind (document_at item.key documents) k (found IsShort (has_key item.key) documents h.texts) (found IsEmptyIfLost (has_key item.key) documents h.lost)
behind_then documents behind (change.Edit params) h k = k
behind_then documents behind (change.Close key) h k = behind_one behind key None k tt tt tt
behind_then documents behind (change.Load load) h k = k

-- all documents of a session
pub record AllKept (s : Session) : Type 0 where
  pub documents : AreKept s.documents
  pub behind : AreBehind s.behind

kept_then : (s : Session) (c : Change) (refused : Bool) → AllKept s → AllKept (session_changed s c (changed s.position_encoding s.documents s.behind c refused))
kept_then s c refused h = record {
  documents = kept_one s.documents (key_of c) (changed s.position_encoding s.documents s.behind c refused) h.documents
      (short_changed s.position_encoding s.documents s.behind c refused h.documents.texts h.behind.kept.texts) (empty_changed s.position_encoding s.documents s.behind c refused h.behind.kept.lost);
  behind = behind_then s.documents s.behind c h.documents h.behind;
}

pub kept_after : (s : Session) (e : Effect) (refused : Bool) → AllKept s → AllKept (session_after s e (changed_by s e refused))
kept_after s (effect.Changes c) refused h = kept_then s c refused h
kept_after s (effect.LoadsBehind load) refused h = record {
  documents = h.documents;
  behind = behind_one s.behind load.key (loaded load) h.behind (short_loaded load.key load.uri load.content) (empty_loaded load.key load.uri load.content) (loaded_loaded load.key load.uri load.content);
}
kept_after s effect.Nothing refused h = h
kept_after s (effect.Begins id capabilities) refused h = record { documents = h.documents; behind = h.behind }
kept_after s (effect.Refuses id why) refused h = h
kept_after s (effect.Asks id asked) refused h = h
kept_after s (effect.Cancels id) refused h = h
kept_after s (effect.ShutsDown id) refused h = record { documents = h.documents; behind = h.behind }
kept_after s (effect.Finishes done) refused h = h
kept_after s (effect.Stops status) refused h = record { documents = h.documents; behind = h.behind }

none_kept : AreKept []
unfolding IsStrictlySortedBy
none_kept = record { in_order = tt; texts = tt; lost = tt }

all_kept : (events : List Turn) (j : ℕ) → AllKept (session_at events j)
all_kept events zero = record { documents = none_kept; behind = record { kept = none_kept; loaded = tt } }
all_kept events (suc j) = kept_after (session_at events j) (effect_at events j) (turn_at events j).text_refused (all_kept events j)

pub documents_are_kept : DocumentsAreKept
documents_are_kept events j = (all_kept events j).documents

pub documents_behind_are_kept : DocumentsBehindAreKept
documents_behind_are_kept events j = (all_kept events j).behind

-- ---- the documents as a question is about them

docs_after : (document : SessionDocument) (documents : List SessionDocument) → AllByRecursion (λ (d : SessionDocument). slice_cmp nat_cmp document.key d.key ≡ Less) documents
    → AllByRecursion (λ (d : Doc). slice_cmp nat_cmp document.key d.key ≡ Less) (docs_of documents)
docs_after document [] h = tt
docs_after document (d ∷ ds) h = (h.0, docs_after document ds h.1)

pub docs_in_order : (documents : List SessionDocument) → IsInOrder documents → project.IsInOrder (docs_of documents)
unfolding IsStrictlySortedBy
docs_in_order [] h = tt
docs_in_order (d ∷ ds) h = (docs_after d ds h.0, docs_in_order ds h.1)

pub docs_are_texts : (documents : List SessionDocument) → AllByRecursion (λ document. length document.text ≤ 2 ^ 22) documents → AreTexts (docs_of documents)
docs_are_texts [] h = tt
docs_are_texts (d ∷ ds) h = (h.0, docs_are_texts ds h.1)
