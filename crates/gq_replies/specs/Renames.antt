-- What a rename is answered with.
use Rattle.std.specs.Prelude.{◌≡◌, ℕ, List, Some, Result, Ok, Err, IfOk}
use Rattle.gq_text.specs.declared.place.PositionEncoding.{PositionEncoding}
use Rattle.gq_project.specs.declared.document.Doc.{Doc}
use Rattle.gq_edit.specs.declared.edit.DocumentEdit.{DocumentEdit}
use Rattle.gq_edit.specs.Workspace.{workspace_edit_of}
use Rattle.gq_rename.specs.declared.refusal.Refusal.{Refusal}
use Rattle.gq_rename.specs.Refusals.{message_of}
use Rattle.gq_rename.specs.Rename.{IsRenameAnswer}
use Rattle.gq_rename.specs.Responses.{KeepsResponses}
use Rattle.gq_rpc.specs.declared.messages.Id.{Id}
use Rattle.gq_rpc.specs.declared.messages.RenameParams.{RenameParams}
use Rattle.gq_rpc.specs.declared.messages.ResponseError.TheVariants as error
use Rattle.gq_rpc.specs.declared.messages.Outgoing.{Outgoing}
use Rattle.gq_rpc.specs.declared.messages.Outgoing.TheVariants as outgoing
use Rattle.gq_replies.specs.Sound.{IsSound}

-- the request is right, and is refused for this
abbrev pub refused : Id → Refusal → Outgoing
refused id why = outgoing.Error (Some id) (error.RequestFailed (message_of why))

-- the response that tells an answer to a rename: its edit, by positions in the texts, or why it is refused
abbrev pub rename_response : PositionEncoding → Id → List Doc → Result (List DocumentEdit) Refusal → Outgoing
rename_response encoding id documents (Ok edit) = outgoing.Renamed id (workspace_edit_of encoding documents edit)
rename_response encoding id documents (Err why) = refused id why

-- the response tells the answer that is defined for a rename at this offset in these documents; where that is an edit it is sound, and keeps all
-- responses
pub record TellsRename (encoding : PositionEncoding) (documents : List Doc) (id : Id) (params : RenameParams) (offset : ℕ) (response : Outgoing) : Type 0 where
  pub answer : Result (List DocumentEdit) Refusal
  pub is_answer : IsRenameAnswer documents params.key offset params.new_name answer
  pub is : response ≡ rename_response encoding id documents answer
  pub sound : IfOk answer (IsSound documents)
  pub responses : IfOk answer (KeepsResponses documents params.key offset params.new_name)
