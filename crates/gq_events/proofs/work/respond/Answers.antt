-- The copied id is the same.
use Rattle.std.proofs.Common.{subst}
use Rattle.std.proofs.lemmas.Result.{IfOk-weaker}
use Rattle.gq_rpc.specs.declared.messages.Id.{Id}
use Rattle.gq_rpc.specs.declared.messages.Outgoing.{Outgoing}
use Rattle.gq_replies.specs.Answers.{IsAnswer}
use Rattle.gq_events.proofs.work.respond.Goals as goal

pub returns-clause-message : goal.returns-clause-message
returns-clause-message c =
    IfOk-weaker c.answer.result _ _
    (λ (message : Outgoing) told. subst (λ (id : Id). ∥ IsAnswer c.args.encoding c.args.kept.now.documents id c.args.question.now message ∥₁) c.in_ok-id.ensures told)
    c.answer.ensures.answer
