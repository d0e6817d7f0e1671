-- What the definition of an answer means.
use Rattle.std.specs.Prelude.{◌≡◌, List}
use Rattle.gq_text.specs.declared.place.PositionEncoding.{PositionEncoding}
use Rattle.gq_project.specs.declared.document.Doc.{Doc}
use Rattle.gq_rpc.specs.declared.messages.Id.{Id}
use Rattle.gq_rpc.specs.declared.messages.Question.{Question}
use Rattle.gq_rpc.specs.declared.messages.Outgoing.{Outgoing}
use Rattle.gq_replies.specs.Answers.{IsDefinedAnswer, IsAnswer}
use Rattle.gq_replies.specs.Responses.{Responds}

-- each answer is a response to its request
abbrev pub AnswersRespond : Type 0
AnswersRespond = (encoding : PositionEncoding) (documents : List Doc) (id : Id) (question : Question) (message : Outgoing) → IsAnswer encoding documents id question message → Responds id message

-- two answers that are defined for a question are one
abbrev pub QuestionsHaveOneAnswer : Type 0
QuestionsHaveOneAnswer =
    (encoding : PositionEncoding) (documents : List Doc) (id : Id) (question : Question) (a b : Outgoing) →
    IsDefinedAnswer encoding documents id question a → IsDefinedAnswer encoding documents id question b → a ≡ b
