-- Documents that are edited.
use Rattle.std.proofs.Common.{◌≡◌, ℕ, true, false, List, Some, Result, Ok, Err, OnOk, is_ok, ap, sym, subst, ◌∙◌}
use Rattle.std.specs.Prelude.{ℤ}
use Rattle.gq_text.specs.declared.place.PositionEncoding.{PositionEncoding}
use Rattle.gq_text.specs.declared.text.Change.{Change}
use Rattle.gq_text.specs.declared.text.TextError.{TextError}
use Rattle.gq_text.specs.Change.{FitEach, after_changes}
use Rattle.gq_rpc.specs.declared.messages.DidChangeParams.{DidChangeParams}
use Rattle.gq_events.specs.declared.documents.SessionDocument.{SessionDocument}
use Rattle.gq_events.proofs.DocumentsKept.{is_fit_each}
use Rattle.gq_events.specs.Documents.{fit_each, changes_in, edited_text}

-- changes that can be read and kept
pub text_after : (encoding : PositionEncoding) (document : SessionDocument) (params : DidChangeParams) (version : ℤ) (changes : List Change) (text : List ℕ) → params.version ≡ Some version → params.changes ≡ Some changes
    → document.lost ≡ false → FitEach encoding document.text changes → text ≡ after_changes encoding document.text changes → edited_text encoding document (changes_in params) ≡ Some text
text_after encoding document params version changes text is_version are_changes known fit is =
    let fitting : fit_each encoding document.text changes ≡ true = is_fit_each encoding document.text changes fit in
    rw (is_version, are_changes, known, fitting) (ap Some (sym is))

pub all_made : (encoding : PositionEncoding) (document : SessionDocument) (params : DidChangeParams) (version : ℤ) (changes seen : List Change) (text : List ℕ) (r : Result (Unit {0}) TextError) → is_ok r ≡ true
    → params.version ≡ Some version → params.changes ≡ Some changes → seen ≡ changes → document.lost ≡ false → OnOk r (FitEach encoding document.text seen) → OnOk r (text ≡ after_changes encoding document.text seen)
    → edited_text encoding document (changes_in params) ≡ Some text
all_made encoding document params version changes seen text (Ok u) ok is_version are_changes same known fit is =
    text_after encoding document params version changes text is_version are_changes known (subst (FitEach encoding document.text) same fit) (is ∙ ap (after_changes encoding document.text) same)
all_made encoding document params version changes seen text (Err e) ok is_version are_changes same known fit is = absurd (cc)
