-- What a rename comes to, under the names that its callers have for the project, the key and the new name.
use Rattle.std.proofs.Common.{◌≡◌, ◌⊎◌, inl, inr, ℕ, List, Result, Ok, Err, subst, ap, ◌∙◌}
use Rattle.gq_text.specs.declared.place.PositionEncoding.{PositionEncoding}
use Rattle.gq_project.specs.declared.document.Doc.{Doc}
use Rattle.gq_edit.specs.declared.edit.DocumentEdit.{DocumentEdit}
use Rattle.gq_edit.specs.declared.workspace.WorkspaceEdit.{WorkspaceEdit}
use Rattle.gq_edit.specs.Workspace.{workspace_edit_of}
use Rattle.gq_rename.specs.declared.refusal.Refusal.{Refusal}
use Rattle.gq_rename.specs.declared.refusal.Refusal.TheVariants.{NoMemory}
use Rattle.gq_rename.specs.Rename.{IsRenameAnswer}
use Rattle.gq_rename.specs.Responses.{KeepsResponses}
use Rattle.gq_rpc.specs.declared.messages.Id.{Id}
use Rattle.gq_rpc.specs.declared.messages.RenameParams.{RenameParams}
use Rattle.gq_rpc.specs.declared.messages.Outgoing.{Outgoing}
use Rattle.gq_rpc.specs.declared.messages.Outgoing.TheVariants as outgoing
use Rattle.gq_replies.specs.Sound.{IsSound}
use Rattle.gq_replies.specs.Renames.{refused, TellsRename}
use Rattle.gq_replies.specs.Answers.{offset_at}
use Rattle.gq_replies.specs.Helping.Results.{IsEditByPosition, IsRenameResult}

module _ (encoding : PositionEncoding) (documents : List Doc) (params : RenameParams) (offset : ℕ) (key name : List ℕ) (same_key : key ≡ params.key) (same_name : name ≡ params.new_name) where
  named : (answer : Result (List DocumentEdit) Refusal) → IsRenameAnswer documents key offset name answer → IsRenameAnswer documents params.key offset params.new_name answer
  named answer h = subst (λ (k : List ℕ). IsRenameAnswer documents k offset params.new_name answer) same_key (subst (λ (n : List ℕ). IsRenameAnswer documents key offset n answer) same_name h)

  pub not_renamed : (answer : Result (List DocumentEdit) Refusal) (why : Refusal) → answer ≡ Err why → (answer ≡ Err NoMemory) ⊎ IsRenameAnswer documents key offset name answer → IsRenameResult encoding documents params offset (Err why)
  not_renamed answer why is (inl none) = inl (cc)
  not_renamed answer why is (inr h) = inr (named (Err why) (subst (IsRenameAnswer documents key offset name) is h))

  kept : (edit : List DocumentEdit) → KeepsResponses documents key offset name edit → KeepsResponses documents params.key offset params.new_name edit
  kept edit h = subst (λ (k : List ℕ). KeepsResponses documents k offset params.new_name edit) same_key (subst (λ (n : List ℕ). KeepsResponses documents key offset n edit) same_name h)

  pub renamed : (answer : Result (List DocumentEdit) Refusal) (edit : List DocumentEdit) (by_position : WorkspaceEdit) → answer ≡ Ok edit → (answer ≡ Err NoMemory) ⊎ IsRenameAnswer documents key offset name answer
      → by_position ≡ workspace_edit_of encoding documents edit → IsSound documents edit → KeepsResponses documents key offset name edit → IsEditByPosition encoding documents params offset by_position
  renamed answer edit by_position is (inl none) same sound responses = absurd (cc)
  renamed answer edit by_position is (inr h) same sound responses =
      record { edit = edit; is_answer = named (Ok edit) (subst (IsRenameAnswer documents key offset name) is h); is = same; sound = sound; responses = kept edit responses }

-- the offset that is asked for
pub offset-asked : (encoding : PositionEncoding) (documents : List Doc) (key : List ℕ) (offset : ℕ) (params : RenameParams) → key ≡ params.key → offset ≡ offset_at encoding documents key params.position
    → offset ≡ offset_at encoding documents params.key params.position
offset-asked encoding documents key offset params same_key same_offset = same_offset ∙ ap (λ (k : List ℕ). offset_at encoding documents k params.position) same_key

-- ---- the response

pub tells_edit : (encoding : PositionEncoding) (documents : List Doc) (id : Id) (params : RenameParams) (offset : ℕ) (by_position : WorkspaceEdit) → IsEditByPosition encoding documents params offset by_position
    → TellsRename encoding documents id params offset (outgoing.Renamed id by_position)
tells_edit encoding documents id params offset by_position h = record { answer = Ok h.edit; is_answer = h.is_answer; is = ap (λ (w : WorkspaceEdit). outgoing.Renamed id w) h.is; sound = h.sound; responses = h.responses }

pub tells_refused : (encoding : PositionEncoding) (documents : List Doc) (id : Id) (params : RenameParams) (offset : ℕ) (why : Refusal) (response : Outgoing)
    → (why ≡ NoMemory) ⊎ IsRenameAnswer documents params.key offset params.new_name (Err why) → response ≡ refused id why → (response ≡ refused id NoMemory) ⊎ TellsRename encoding documents id params offset response
tells_refused encoding documents id params offset why response (inl none) is = inl (is ∙ ap (refused id) none)
tells_refused encoding documents id params offset why response (inr h) is = inr (record { answer = Err why; is_answer = h; is = is; sound = tt; responses = tt })
