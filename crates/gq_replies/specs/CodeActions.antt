-- The code actions that are answered (LSP 3.17, "Code Action Request").
use Rattle.std.specs.Prelude.{◌≡◌, ℕ, Bool, true, false, ◌&&◌, ◌||◌, nat_eq, nat_le, List, [], ◌∷◌, ◌++◌, length, slice_get, Option, Some, None, Result, Ok, Err, IfOk, if◌then◌else◌}
use Rattle.std.specs.List.{list_any, starts_with}
use Rattle.std.specs.Option.{option_map_or}
use Rattle.std.specs.Str.{bytes_eq}
use Rattle.gq_text.specs.declared.place.PositionEncoding.{PositionEncoding}
use Rattle.gq_text.specs.declared.place.Span.{Span}
use Rattle.gq_project.specs.declared.document.Doc.{Doc}
use Rattle.gq_edit.specs.declared.edit.DocumentEdit.{DocumentEdit}
use Rattle.gq_edit.specs.Workspace.{workspace_edit_of}
use Rattle.gq_rename.specs.declared.refusal.Refusal.{Refusal}
use Rattle.gq_reshape.specs.Asks.{RangeAsk}
use Rattle.gq_reshape.specs.Reshape.{IsExtractAnswer, IsInlineAnswer, IsRemoveAnswer}
use Rattle.gq_reshape.specs.Responses.{KeepsResponses}
use Rattle.gq_rpc.specs.Actions.{action_name}
use Rattle.gq_rpc.specs.declared.messages.Id.{Id}
use Rattle.gq_rpc.specs.declared.messages.CodeActionKind.{CodeActionKind}
use Rattle.gq_rpc.specs.declared.messages.CodeActionKind.TheVariants as action
use Rattle.gq_rpc.specs.declared.messages.CodeAction.{CodeAction}
use Rattle.gq_rpc.specs.declared.messages.CodeActionParams.{CodeActionParams}
use Rattle.gq_rpc.specs.declared.messages.Outgoing.{Outgoing}
use Rattle.gq_rpc.specs.declared.messages.Outgoing.TheVariants as outgoing
use Rattle.gq_replies.specs.Sound.{IsSound}

-- ---- what is asked for

-- the span of two offsets, exchanged where the first one comes after the second one
abbrev pub span_between : ℕ → ℕ → Span
span_between a b = if nat_le a b then record { start = a; end = b } else record { start = b; end = a }

-- a name starts with an entry of `only`, and a dot (46) comes next
abbrev pub goes_on_by_dot : (entry name : List ℕ) → Bool
goes_on_by_dot entry name = starts_with nat_eq name entry && option_map_or (λ byte. nat_eq byte 46) (slice_get name (length entry)) false

-- An entry asks for the kinds whose name it is or begins, up to a dot. An empty one asks for all.
abbrev pub asks_for : (entry name : List ℕ) → Bool
asks_for entry name = bytes_eq entry [] || (bytes_eq entry name || goes_on_by_dot entry name)

-- a kind is asked for where `only` is absent, or some entry of it asks for that
abbrev pub is_asked_for : (only : Option (List (List ℕ))) → CodeActionKind → Bool
is_asked_for None kind = true
is_asked_for (Some entries) kind = list_any (λ entry. asks_for entry (action_name kind)) entries

-- ---- what is offered

-- the answer to the refactoring of a kind
abbrev pub IsRefactoring : CodeActionKind → List Doc → RangeAsk → Result (List DocumentEdit) Refusal → Type 0
IsRefactoring action.Extract documents ask answer = IsExtractAnswer documents ask answer
IsRefactoring action.Inline documents ask answer = IsInlineAnswer documents ask answer
IsRefactoring action.Rewrite documents ask answer = IsRemoveAnswer documents ask answer

-- the action that it gives: its edit, by positions in the texts; none where it is refused
abbrev pub actions_of : PositionEncoding → List Doc → CodeActionKind → Result (List DocumentEdit) Refusal → List CodeAction
actions_of encoding documents kind (Ok edit) = record { kind = kind; edit = workspace_edit_of encoding documents edit } ∷ []
actions_of encoding documents kind (Err why) = []

-- the answer to the refactoring of a kind gives these actions; where it is an edit it is sound, and keeps all responses
pub record IsOffered (encoding : PositionEncoding) (documents : List Doc) (ask : RangeAsk) (kind : CodeActionKind) (actions : List CodeAction) : Type 0 where
  pub answer : Result (List DocumentEdit) Refusal
  pub is_answer : IsRefactoring kind documents ask answer
  pub is : actions ≡ actions_of encoding documents kind answer
  pub sound : IfOk answer (IsSound documents)
  pub responses : IfOk answer (KeepsResponses documents)

-- none, where the kind is not asked for
abbrev pub IsOfferedIf : PositionEncoding → Bool → List Doc → RangeAsk → CodeActionKind → List CodeAction → Type 0
IsOfferedIf encoding true documents ask kind actions = IsOffered encoding documents ask kind actions
IsOfferedIf encoding false documents ask kind actions = actions ≡ []

abbrev pub IsGiven : PositionEncoding → List Doc → RangeAsk → (only : Option (List (List ℕ))) → CodeActionKind → List CodeAction → Type 0
IsGiven encoding documents ask only kind actions = IsOfferedIf encoding (is_asked_for only kind) documents ask kind actions

-- the response tells the actions for the range, in bytes, in this order of kinds
pub record TellsCodeActions (encoding : PositionEncoding) (documents : List Doc) (id : Id) (params : CodeActionParams) (range : Span) (response : Outgoing) : Type 0 where
  pub extracts : List CodeAction
  pub extracts_given : IsGiven encoding documents (record { key = params.key; range = range }) params.only action.Extract extracts
  pub inlines : List CodeAction
  pub inlines_given : IsGiven encoding documents (record { key = params.key; range = range }) params.only action.Inline inlines
  pub rewrites : List CodeAction
  pub rewrites_given : IsGiven encoding documents (record { key = params.key; range = range }) params.only action.Rewrite rewrites
  pub is : response ≡ outgoing.CodeActions id (extracts ++ (inlines ++ rewrites))
