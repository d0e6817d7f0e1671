-- What is promised of each edit that is answered, whatever events come.
use Rattle.std.specs.Prelude.{◌≡◌, ℕ, suc, ◌<◌, ◌≤◌, List, length, Some}
use Rattle.std.specs.List.{AllByRecursion}
use Rattle.gq_edit.specs.declared.workspace.WorkspaceEdit.{WorkspaceEdit}
use Rattle.gq_rpc.specs.declared.messages.Id.{Id}
use Rattle.gq_rpc.specs.declared.messages.Question.{Question}
use Rattle.gq_rpc.specs.declared.messages.Outgoing.{Outgoing}
use Rattle.gq_replies.specs.Answers.{IsAnswer}
use Rattle.gq_replies.specs.Offers.{edits_in, IsSafe}
use Rattle.gq_events.specs.declared.event.Out.{Out}
use Rattle.gq_events.specs.declared.event.Out.TheVariants as out
use Rattle.gq_events.specs.declared.effect.Effect.TheVariants as effect
use Rattle.gq_events.specs.Rules.{Turn}
use Rattle.gq_events.specs.History.{docs_at, encoding_at, effect_at, outputs_at, IsAnswered}

-- The message answers a question that was asked at some earlier place, under its id. Its edit is exactly the one that is defined for the documents
-- as they were there, and still are, with positions in the session's encoding: a valid project, at the versions that the edit states; applied to these texts it gives a valid project, in which every
-- operation has over every table and for all values of variables, renamed alike, the responses that it had.
pub record IsOwnEdit (events : List Turn) (j : ℕ) (message : Outgoing) (edit : WorkspaceEdit) : Type 0 where
  pub place : ℕ
  pub id : Id
  pub question : Question
  pub earlier : place ≤ j
  pub asks : effect_at events place ≡ effect.Asks id (Some question)
  pub still : docs_at events place ≡ docs_at events (suc j)
  pub answers : IsAnswer (encoding_at events place) (docs_at events place) id question message
  pub safe : IsSafe (encoding_at events place) (docs_at events place) question edit

abbrev pub IsSafeOutput : List Turn → ℕ → Out → Type 0
IsSafeOutput events j (out.Reply message) = AllByRecursion (λ edit. ∥ IsOwnEdit events j message edit ∥₁) (edits_in message)
IsSafeOutput events j (out.Notify message) = Unit {0}
IsSafeOutput events j (out.Publish change) = Unit {0}
IsSafeOutput events j (out.Job job) = Unit {0}
IsSafeOutput events j (out.Stop status) = Unit {0}

-- so is each edit that is answered for these events
abbrev pub Headline : ℕ → List Turn → Type 0
Headline workers events = (j : ℕ) → j < length events → AllByRecursion (IsSafeOutput events j) (outputs_at workers events j)

-- wherever the answers of the turns are right
abbrev pub EditsAreSafe : Type 0
EditsAreSafe = (workers : ℕ) (events : List Turn) (j : ℕ) → IsAnswered workers events j → AllByRecursion (IsSafeOutput events j) (outputs_at workers events j)
