-- The edits that an answer carries are safe.
use Rattle.std.proofs.Common.{◌≡◌, ◌⊎◌, inl, inr, Bool, true, false, List, [], ◌∷◌, ◌++◌, Result, Ok, Err, IfOk, map, subst, sym, refl}
use Rattle.std.specs.List.{AllByRecursion}
use Rattle.gq_text.specs.declared.place.PositionEncoding.{PositionEncoding}
use Rattle.gq_project.specs.declared.document.Doc.{Doc}
use Rattle.gq_edit.specs.declared.edit.DocumentEdit.{DocumentEdit}
use Rattle.gq_edit.specs.declared.workspace.WorkspaceEdit.{WorkspaceEdit}
use Rattle.gq_rename.specs.declared.refusal.Refusal.{Refusal}
use Rattle.gq_rename.specs.Rename.{IsRenameAnswer}
use Rattle.gq_rename.specs.Responses as renames
use Rattle.gq_reshape.specs.Responses as reshapes
use Rattle.gq_rpc.specs.declared.messages.Id.{Id}
use Rattle.gq_rpc.specs.declared.messages.CodeAction.{CodeAction}
use Rattle.gq_rpc.specs.declared.messages.CodeActionKind.{CodeActionKind}
use Rattle.gq_rpc.specs.declared.messages.CodeActionKind.TheVariants as action
use Rattle.gq_rpc.specs.declared.messages.CodeActionParams.{CodeActionParams}
use Rattle.gq_rpc.specs.declared.messages.RenameParams.{RenameParams}
use Rattle.gq_rpc.specs.declared.messages.Question.{Question}
use Rattle.gq_rpc.specs.declared.messages.Question.TheVariants as question
use Rattle.gq_rpc.specs.declared.messages.Outgoing.{Outgoing}
use Rattle.gq_rpc.specs.declared.messages.Outgoing.TheVariants as outgoing
use Rattle.gq_replies.specs.Sound.{IsSound}
use Rattle.gq_replies.specs.Renames.{rename_response}
use Rattle.gq_replies.specs.CodeActions.{is_asked_for, IsRefactoring, actions_of, IsOfferedIf, TellsCodeActions}
use Rattle.gq_replies.specs.Answers.{offset_at}
use Rattle.gq_replies.specs.Offers.{edits_in, range_asked, IsCutFor, IsSafe, AnsweredEditsAreSafe}

abbrev AreSafe : PositionEncoding → List Doc → Question → List WorkspaceEdit → Type 0
AreSafe encoding documents asked edits = AllByRecursion (IsSafe encoding documents asked) edits

-- what is known of a message is known of one that is equal to it
of_message : (encoding : PositionEncoding) (documents : List Doc) (asked : Question) (message other : Outgoing) → message ≡ other → AreSafe encoding documents asked (edits_in other) → AreSafe encoding documents asked (edits_in message)
of_message encoding documents asked message other e h = subst (λ (m : Outgoing). AreSafe encoding documents asked (edits_in m)) (sym e) h

of_rename : (encoding : PositionEncoding) (documents : List Doc) (id : Id) (params : RenameParams) (answer : Result (List DocumentEdit) Refusal) → IsRenameAnswer documents params.key (offset_at encoding documents params.key params.position) params.new_name answer
    → IfOk answer (IsSound documents) → IfOk answer (renames.KeepsResponses documents params.key (offset_at encoding documents params.key params.position) params.new_name)
    → AreSafe encoding documents (question.Rename params) (edits_in (rename_response encoding id documents answer))
of_rename encoding documents id params (Ok edits) exact sound responses = (record { edits = edits; exact = exact; by_positions = refl; sound = sound; responses = responses }, tt)
of_rename encoding documents id params (Err why) exact sound responses = tt

both : (encoding : PositionEncoding) (documents : List Doc) (asked : Question) (xs ys : List CodeAction) → AreSafe encoding documents asked (map (λ a. a.edit) xs) → AreSafe encoding documents asked (map (λ a. a.edit) ys) → AreSafe encoding documents asked (map (λ a. a.edit) (xs ++ ys))
both encoding documents asked [] ys h k = k
both encoding documents asked (x ∷ xs) ys h k = (h.0, both encoding documents asked xs ys h.1 k)

module _ (encoding : PositionEncoding) (documents : List Doc) (params : CodeActionParams) (kind : CodeActionKind) (is_cut : (edits : List DocumentEdit) → IsRefactoring kind documents (range_asked encoding documents params) (Ok edits) → IsCutFor encoding documents (question.CodeAction params) edits) where
  of_action : (answer : Result (List DocumentEdit) Refusal) → IsRefactoring kind documents (range_asked encoding documents params) answer → IfOk answer (IsSound documents) → IfOk answer (reshapes.KeepsResponses documents)
      → AreSafe encoding documents (question.CodeAction params) (map (λ a. a.edit) (actions_of encoding documents kind answer))
  of_action (Ok edits) exact sound responses = (record { edits = edits; exact = is_cut edits exact; by_positions = refl; sound = sound; responses = responses }, tt)
  of_action (Err why) exact sound responses = tt

  of_kind : (b : Bool) (actions : List CodeAction) → IsOfferedIf encoding b documents (range_asked encoding documents params) kind actions → AreSafe encoding documents (question.CodeAction params) (map (λ a. a.edit) actions)
  of_kind true actions h = subst (λ (xs : List CodeAction). AreSafe encoding documents (question.CodeAction params) (map (λ a. a.edit) xs)) (sym h.is) (of_action h.answer h.is_answer h.sound h.responses)
  of_kind false actions h = subst (λ (xs : List CodeAction). AreSafe encoding documents (question.CodeAction params) (map (λ a. a.edit) xs)) (sym h) tt

of_actions : (encoding : PositionEncoding) (documents : List Doc) (id : Id) (params : CodeActionParams) (message : Outgoing) → TellsCodeActions encoding documents id params (range_asked encoding documents params).range message → AreSafe encoding documents (question.CodeAction params) (edits_in message)
of_actions encoding documents id params message h =
    of_message encoding documents (question.CodeAction params) message _ h.is
    (both encoding documents (question.CodeAction params) h.extracts (h.inlines ++ h.rewrites)
    (of_kind encoding documents params action.Extract (λ edits c. inl c) (is_asked_for params.only action.Extract) h.extracts h.extracts_given)
    (both encoding documents (question.CodeAction params) h.inlines h.rewrites
    (of_kind encoding documents params action.Inline (λ edits c. inr (inl c)) (is_asked_for params.only action.Inline) h.inlines h.inlines_given)
    (of_kind encoding documents params action.Rewrite (λ edits c. inr (inr c)) (is_asked_for params.only action.Rewrite) h.rewrites h.rewrites_given)))

pub answered_edits_are_safe : AnsweredEditsAreSafe
answered_edits_are_safe encoding documents id asked message (inl refused) = of_message encoding documents asked message _ refused tt
answered_edits_are_safe encoding documents id (question.Rename params) message (inr h) = of_message encoding documents (question.Rename params) message _ h.is (of_rename encoding documents id params h.answer h.is_answer h.sound h.responses)
answered_edits_are_safe encoding documents id (question.CodeAction params) message (inr h) = of_actions encoding documents id params message h
answered_edits_are_safe encoding documents id (question.Completion params) message (inr h) = of_message encoding documents (question.Completion params) message _ h.is tt
answered_edits_are_safe encoding documents id (question.Definition params) message (inr h) = of_message encoding documents (question.Definition params) message _ h.is tt
answered_edits_are_safe encoding documents id (question.Hover params) message (inr h) = of_message encoding documents (question.Hover params) message _ h.is tt
answered_edits_are_safe encoding documents id (question.PrepareRename params) message (inr h) = of_message encoding documents (question.PrepareRename params) message _ h.is tt
answered_edits_are_safe encoding documents id (question.References params) message (inr h) = of_message encoding documents (question.References params) message _ h.is tt
