-- What refactorings come to, before they are told. Only contracts of private functions speak of it.
use Rattle.std.specs.Prelude.{◌≡◌, ◌⊎◌, ◌++◌, ℕ, List, Option, Some, None, Result, Ok, Err, IfOk}
use Rattle.gq_text.specs.declared.place.PositionEncoding.{PositionEncoding}
use Rattle.gq_project.specs.declared.document.Doc.{Doc}
use Rattle.gq_edit.specs.declared.edit.DocumentEdit.{DocumentEdit}
use Rattle.gq_edit.specs.declared.workspace.WorkspaceEdit.{WorkspaceEdit}
use Rattle.gq_edit.specs.Workspace.{workspace_edit_of}
use Rattle.gq_rename.specs.declared.refusal.Refusal.{Refusal}
use Rattle.gq_rename.specs.declared.refusal.Refusal.TheVariants.{NoMemory}
use Rattle.gq_rename.specs.Rename.{IsRenameAnswer}
use Rattle.gq_rename.specs.Responses as renames
use Rattle.gq_rpc.specs.declared.messages.Id.{Id}
use Rattle.gq_rpc.specs.declared.messages.Outgoing.{Outgoing}
use Rattle.gq_rpc.specs.declared.messages.RenameParams.{RenameParams}
use Rattle.gq_rpc.specs.declared.messages.CodeActionKind.{CodeActionKind}
use Rattle.gq_rpc.specs.declared.messages.CodeAction.{CodeAction}
use Rattle.gq_reshape.specs.Asks.{RangeAsk}
use Rattle.gq_reshape.specs.Responses as reshapes
use Rattle.gq_replies.specs.Sound.{IsSound}
use Rattle.gq_replies.specs.Renames.{refused, TellsRename}
use Rattle.gq_replies.specs.Answers.{offset_at}
use Rattle.gq_replies.specs.CodeActions.{IsRefactoring, IsGiven}

-- the edit of a rename, by positions in the texts
pub record IsEditByPosition (encoding : PositionEncoding) (documents : List Doc) (params : RenameParams) (offset : ℕ) (by_position : WorkspaceEdit) : Type 0 where
  pub edit : List DocumentEdit
  pub is_answer : IsRenameAnswer documents params.key offset params.new_name (Ok edit)
  pub is : by_position ≡ workspace_edit_of encoding documents edit
  pub sound : IsSound documents edit
  pub responses : renames.KeepsResponses documents params.key offset params.new_name edit

-- that edit, or a refusal, of which want of memory always may be one
abbrev pub IsRenameResult : PositionEncoding → List Doc → RenameParams → ℕ → Result WorkspaceEdit Refusal → Type 0
IsRenameResult encoding documents params offset (Ok by_position) = IsEditByPosition encoding documents params offset by_position
IsRenameResult encoding documents params offset (Err why) = (why ≡ NoMemory) ⊎ IsRenameAnswer documents params.key offset params.new_name (Err why)

-- the response tells that, or that memory was refused
abbrev pub IsRenamed : PositionEncoding → List Doc → Id → RenameParams → Outgoing → Type 0
IsRenamed encoding documents id params response = (response ≡ refused id NoMemory) ⊎ TellsRename encoding documents id params (offset_at encoding documents params.key params.position) response

-- the answer to a refactoring of a kind, or want of memory; and an edit keeps the responses
abbrev pub IsAnswerKept : CodeActionKind → List Doc → RangeAsk → Result (List DocumentEdit) Refusal → Type 0
IsAnswerKept kind documents ask result = ((result ≡ Err NoMemory) ⊎ IsRefactoring kind documents ask result) × IfOk result (reshapes.KeepsResponses documents)

-- the edit of the refactoring of a kind
pub record IsEditOf (kind : CodeActionKind) (documents : List Doc) (ask : RangeAsk) (edit : List DocumentEdit) : Type 0 where
  pub is_answer : IsRefactoring kind documents ask (Ok edit)
  pub sound : IsSound documents edit
  pub responses : reshapes.KeepsResponses documents edit

-- that edit, or none where the refactoring is refused
abbrev pub IsEditIfAny : CodeActionKind → List Doc → RangeAsk → Option (List DocumentEdit) → Type 0
IsEditIfAny kind documents ask (Some edit) = IsEditOf kind documents ask edit
IsEditIfAny kind documents ask None = (why : Refusal) × IsRefactoring kind documents ask (Err why)

-- the actions of a kind are added
abbrev pub AddsGiven : PositionEncoding → List Doc → RangeAsk → (only : Option (List (List ℕ))) → CodeActionKind → (before after : List CodeAction) → Type 0
AddsGiven encoding documents ask only kind before after = (actions : List CodeAction) × IsGiven encoding documents ask only kind actions × (after ≡ before ++ actions)
