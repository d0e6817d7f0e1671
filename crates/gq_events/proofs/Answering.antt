-- What a session puts out for an event that changes nothing, and for a task for which memory was refused.
use Rattle.std.proofs.Common.{◌≡◌, ℕ, false, List, [], ◌++◌, Option, Result, OnOk, ap, sym, subst, ◌∙◌}
use Rattle.std.specs.Prelude.{codes}
use Rattle.std.proofs.lemmas.List.{append-nil}
use Rattle.gq_text.specs.declared.buffer.NoMemory.{NoMemory}
use Rattle.gq_rpc.specs.declared.messages.ResponseError.{ResponseError}
use Rattle.gq_events.specs.declared.refusals.Denial.{Denial}
use Rattle.gq_events.specs.declared.effect.Effect.{Effect}
use Rattle.gq_events.specs.declared.event.Answer.{Answer}
use Rattle.gq_events.specs.declared.event.Answer.TheVariants as answer
use Rattle.gq_events.specs.declared.event.Out.{Out}
use Rattle.gq_events.specs.declared.event.Task.{Task}
use Rattle.gq_events.specs.Rules.{Session, changed_by, session_after, own, failed, refused_as, answered, Replies}

-- an event that changes nothing
pub quiet : (workers : ℕ) (s : Session) (denied : Option Denial) (e f : Effect) (outs : List Out) → e ≡ f → s ≡ session_after s f (changed_by s f false) → [] ≡ own workers s denied f (changed_by s f false) → Replies workers s denied e s outs outs
quiet workers s denied e f outs is stays nothing = subst (λ (e : Effect). Replies workers s denied e s outs outs) (sym is) (false, stays, sym (append-nil outs) ∙ ap (λ (l : List Out). outs ++ l) nothing)

-- a task for which memory was refused fails
pub told_failed : (task : Task) (a : Answer) (why : ResponseError) (result : Result (Unit {0}) NoMemory) (old new : List Out) → a ≡ answer.NoMemory → why ≡ failed (codes "12 NoMemory") → OnOk result (new ≡ old ++ refused_as task why)
    → OnOk result (new ≡ old ++ answered task a)
told_failed task a why result old new none is told =
    subst (λ (a : Answer). OnOk result (new ≡ old ++ answered task a)) (sym none) (subst (λ (w : ResponseError). OnOk result (new ≡ old ++ refused_as task w)) is told)
