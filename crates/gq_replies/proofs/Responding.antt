-- Each answer is a response to its request.
use Rattle.std.proofs.Common.{inl, inr, List, refl}
use Rattle.std.specs.Prelude.{Result, Ok, Err}
use Rattle.gq_text.specs.declared.place.PositionEncoding.{PositionEncoding}
use Rattle.gq_project.specs.declared.document.Doc.{Doc}
use Rattle.gq_edit.specs.declared.edit.DocumentEdit.{DocumentEdit}
use Rattle.gq_rename.specs.declared.refusal.Refusal.{Refusal}
use Rattle.gq_rpc.specs.declared.messages.Id.{Id}
use Rattle.gq_rpc.specs.declared.messages.Question.{Question}
use Rattle.gq_rpc.specs.declared.messages.Question.TheVariants as question
use Rattle.gq_rpc.specs.declared.messages.Outgoing.{Outgoing}
use Rattle.gq_replies.specs.Renames.{rename_response}
use Rattle.gq_replies.specs.Answers.{IsAnswer}
use Rattle.gq_replies.specs.Responses.{Responds}

rename_responds : (encoding : PositionEncoding) (id : Id) (documents : List Doc) (answer : Result (List DocumentEdit) Refusal) → Responds id (rename_response encoding id documents answer)
rename_responds encoding id documents (Ok edit) = refl
rename_responds encoding id documents (Err why) = (refl, tt)

pub responds : (encoding : PositionEncoding) (documents : List Doc) (id : Id) (asked : Question) (message : Outgoing) → IsAnswer encoding documents id asked message → Responds id message
responds encoding documents id asked message (inl e) = rw e (refl, tt)
responds encoding documents id (question.Completion params) message (inr h) = rw h.is refl
responds encoding documents id (question.Definition params) message (inr h) = rw h.is refl
responds encoding documents id (question.Hover params) message (inr h) = rw h.is refl
responds encoding documents id (question.PrepareRename params) message (inr h) = rw h.is refl
responds encoding documents id (question.References params) message (inr h) = rw h.is refl
responds encoding documents id (question.Rename params) message (inr h) = rw h.is (rename_responds encoding id documents h.answer)
responds encoding documents id (question.CodeAction params) message (inr h) = rw h.is refl
