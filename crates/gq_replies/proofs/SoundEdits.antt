-- The edit of an answer in a valid project is sound.
use Rattle.std.proofs.Common.{◌≡◌, ◌⊎◌, inl, inr, ℕ, List, None, Result, Ok, Err, find, subst}
use Rattle.gq_project.specs.declared.document.Doc.{Doc}
use Rattle.gq_project.specs.Documents.{IsInOrder}
use Rattle.gq_edit.specs.declared.edit.DocumentEdit.{DocumentEdit}
use Rattle.gq_edit.specs.Edits.{FitDocuments, after_edit, is_moved}
use Rattle.gq_rules.specs.Validity.{IsValid}
use Rattle.gq_rename.specs.declared.refusal.Refusal.{Refusal}
use Rattle.gq_rename.specs.declared.refusal.Refusal.TheVariants.{NoMemory}
use Rattle.gq_rename.specs.Determined.{RenamesNameVersions, RenamesLeadBack}
use Rattle.gq_rename.specs.LeadBack.{EditsLeadBack}
use Rattle.gq_rename.specs.Rename.{IsRenameAnswer}
use Rattle.gq_rename.specs.Sound.{AreUtf8}
use Rattle.gq_reshape.specs.Asks.{RangeAsk}
use Rattle.gq_reshape.specs.Determined.{EditsNameVersions, AnsweredEditsLeadBack}
use Rattle.gq_reshape.specs.Reshape.{IsExtractAnswer, IsInlineAnswer, IsRemoveAnswer}
use Rattle.gq_reshape.specs.Responses.{KeepsResponses}
use Rattle.gq_rpc.specs.declared.messages.CodeActionKind.{CodeActionKind}
use Rattle.gq_rpc.specs.declared.messages.CodeActionKind.TheVariants as action
use Rattle.gq_replies.specs.CodeActions.{IsRefactoring}
use Rattle.gq_replies.specs.Sound.{IsSound}
use Rattle.gq_replies.specs.Helping.Results.{IsEditOf}

-- an answer that is an edit is one, or memory was refused
abbrev IfAny : (Result (List DocumentEdit) Refusal → Type 0) → List DocumentEdit → Type 0
IfAny IsAnswer edits = ◌≡◌ {A = Result (List DocumentEdit) Refusal} (Ok edits) (Err NoMemory) ⊎ IsAnswer (Ok edits)

module _ (documents project : List Doc) (same : project ≡ documents) (in_order : IsInOrder project) (utf8 : AreUtf8 project) (valid : ∥ IsValid documents ∥₁) (edits : List DocumentEdit) (fits : FitDocuments documents edits) (stays : ∥ IsValid (after_edit edits documents) ∥₁) where
  order : IsInOrder documents
  order = subst (λ (ds : List Doc). IsInOrder ds) same in_order

  texts : AreUtf8 documents
  texts = subst AreUtf8 same utf8

  sound : find (is_moved documents) edits ≡ None → EditsLeadBack documents edits → IsSound documents edits
  sound there leads = record { valid = valid; there = there; fits = fits; leads_back = leads; stays_valid = stays }

  -- of a rename
  pub sound_rename : RenamesNameVersions → RenamesLeadBack → (key : List ℕ) (offset : ℕ) (new : List ℕ) → IfAny (IsRenameAnswer documents key offset new) edits → IsSound documents edits
  sound_rename versions leads key offset new (inl none) = absurd (cc)
  sound_rename versions leads key offset new (inr a) = sound (versions documents key offset new edits order a) (leads documents key offset new edits order texts a)

  -- of a refactoring of any kind
  module _ (ask : RangeAsk) where
    sound_answer : (IsAnswer : List Doc → RangeAsk → Result (List DocumentEdit) Refusal → Type 0) → EditsNameVersions IsAnswer → AnsweredEditsLeadBack IsAnswer → IsAnswer documents ask (Ok edits) → IsSound documents edits
    sound_answer IsAnswer versions leads a = sound (versions documents ask edits order a) (leads documents ask edits order texts a)

    sound_refactoring : EditsNameVersions IsExtractAnswer → EditsNameVersions IsInlineAnswer → EditsNameVersions IsRemoveAnswer → AnsweredEditsLeadBack IsExtractAnswer → AnsweredEditsLeadBack IsInlineAnswer → AnsweredEditsLeadBack IsRemoveAnswer →
        (kind : CodeActionKind) → IsRefactoring kind documents ask (Ok edits) → IsSound documents edits
    sound_refactoring e i r f j s action.Extract a = sound_answer IsExtractAnswer e f a
    sound_refactoring e i r f j s action.Inline a = sound_answer IsInlineAnswer i j a
    sound_refactoring e i r f j s action.Rewrite a = sound_answer IsRemoveAnswer r s a

    pub edit_of : EditsNameVersions IsExtractAnswer → EditsNameVersions IsInlineAnswer → EditsNameVersions IsRemoveAnswer → AnsweredEditsLeadBack IsExtractAnswer → AnsweredEditsLeadBack IsInlineAnswer → AnsweredEditsLeadBack IsRemoveAnswer →
        (kind : CodeActionKind) → KeepsResponses documents edits → IfAny (IsRefactoring kind documents ask) edits → IsEditOf kind documents ask edits
    edit_of e i r f j s kind responses (inl none) = absurd (cc)
    edit_of e i r f j s kind responses (inr a) = record { is_answer = a; sound = sound_refactoring e i r f j s kind a; responses = responses }
