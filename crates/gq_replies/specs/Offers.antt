-- The edits that an answer carries: each is exactly the one that is asked for, and changes no response.
use Rattle.std.specs.Prelude.{◌≡◌, ◌⊎◌, List, [], ◌∷◌, map, Ok}
use Rattle.std.specs.List.{AllByRecursion}
use Rattle.gq_text.specs.declared.place.PositionEncoding.{PositionEncoding}
use Rattle.gq_project.specs.declared.document.Doc.{Doc}
use Rattle.gq_edit.specs.declared.edit.DocumentEdit.{DocumentEdit}
use Rattle.gq_edit.specs.declared.workspace.WorkspaceEdit.{WorkspaceEdit}
use Rattle.gq_edit.specs.Workspace.{workspace_edit_of}
use Rattle.gq_rename.specs.Rename.{IsRenameAnswer}
use Rattle.gq_rename.specs.Responses as renames
use Rattle.gq_reshape.specs.Asks.{RangeAsk}
use Rattle.gq_reshape.specs.Reshape.{IsExtractAnswer, IsInlineAnswer, IsRemoveAnswer}
use Rattle.gq_reshape.specs.Responses as reshapes
use Rattle.gq_rpc.specs.declared.messages.Id.{Id}
use Rattle.gq_rpc.specs.declared.messages.CodeActionParams.{CodeActionParams}
use Rattle.gq_rpc.specs.declared.messages.Question.{Question}
use Rattle.gq_rpc.specs.declared.messages.Question.TheVariants as question
use Rattle.gq_rpc.specs.declared.messages.Outgoing.{Outgoing}
use Rattle.gq_rpc.specs.declared.messages.Outgoing.TheVariants as outgoing
use Rattle.gq_replies.specs.Sound.{IsSound}
use Rattle.gq_replies.specs.Answers.{offset_at, span_at, IsAnswer}

-- the edits that a message carries: that of a rename, or that of each code action
abbrev pub edits_in : Outgoing → List WorkspaceEdit
edits_in (outgoing.Renamed id edit) = edit ∷ []
edits_in (outgoing.CodeActions id actions) = map (λ action. action.edit) actions
edits_in (outgoing.Initialized id capabilities) = []
edits_in (outgoing.ShutDown id) = []
edits_in (outgoing.Completions id items) = []
edits_in (outgoing.Hover id hover) = []
edits_in (outgoing.Locations id locations) = []
edits_in (outgoing.Prepared id prepared) = []
edits_in (outgoing.Error id why) = []
edits_in (outgoing.Diagnostics params) = []

-- the range that code actions are asked for, in bytes
abbrev pub range_asked : PositionEncoding → List Doc → CodeActionParams → RangeAsk
range_asked encoding documents params = record { key = params.key; range = span_at encoding documents params.key params.range }

-- what is cut for the question: exactly the edit that is defined for it
abbrev pub IsCutFor : PositionEncoding → List Doc → Question → List DocumentEdit → Type 0
IsCutFor encoding documents (question.Rename params) edits = IsRenameAnswer documents params.key (offset_at encoding documents params.key params.position) params.new_name (Ok edits)
IsCutFor encoding documents (question.CodeAction params) edits =
    IsExtractAnswer documents (range_asked encoding documents params) (Ok edits)
    ⊎ (IsInlineAnswer documents (range_asked encoding documents params) (Ok edits) ⊎ IsRemoveAnswer documents (range_asked encoding documents params) (Ok edits))
IsCutFor encoding documents (question.Completion params) edits = ⊥
IsCutFor encoding documents (question.Definition params) edits = ⊥
IsCutFor encoding documents (question.Hover params) edits = ⊥
IsCutFor encoding documents (question.PrepareRename params) edits = ⊥
IsCutFor encoding documents (question.References params) edits = ⊥

-- over every table and for all values of variables, renamed alike, every operation has the responses that it had
abbrev pub KeepsResponsesFor : PositionEncoding → List Doc → Question → List DocumentEdit → Type 0
KeepsResponsesFor encoding documents (question.Rename params) edits = renames.KeepsResponses documents params.key (offset_at encoding documents params.key params.position) params.new_name edits
KeepsResponsesFor encoding documents (question.CodeAction params) edits = reshapes.KeepsResponses documents edits
KeepsResponsesFor encoding documents (question.Completion params) edits = ⊥
KeepsResponsesFor encoding documents (question.Definition params) edits = ⊥
KeepsResponsesFor encoding documents (question.Hover params) edits = ⊥
KeepsResponsesFor encoding documents (question.PrepareRename params) edits = ⊥
KeepsResponsesFor encoding documents (question.References params) edits = ⊥

-- An edit that is offered for a question about documents: it is exactly the one that is defined, by positions in their texts; they are a valid
-- project, at the versions that it states, and stay one after it; and it changes no response.
pub record IsSafe (encoding : PositionEncoding) (documents : List Doc) (asked : Question) (edit : WorkspaceEdit) : Type 0 where
  pub edits : List DocumentEdit
  pub exact : IsCutFor encoding documents asked edits
  pub by_positions : edit ≡ workspace_edit_of encoding documents edits
  pub sound : IsSound documents edits
  pub responses : KeepsResponsesFor encoding documents asked edits

-- each edit of an answer is such a one
abbrev pub AnsweredEditsAreSafe : Type 0
AnsweredEditsAreSafe =
    (encoding : PositionEncoding) (documents : List Doc) (id : Id) (asked : Question) (message : Outgoing) → IsAnswer encoding documents id asked message
    → AllByRecursion (IsSafe encoding documents asked) (edits_in message)
