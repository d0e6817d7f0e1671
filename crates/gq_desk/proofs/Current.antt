-- What is kept of the documents is kept of those after an event, but under its key.
use Rattle.std.proofs.Common.{◌≡◌, ℕ, List, Option, sym, subst, ap, ◌∙◌}
use Rattle.std.specs.Prelude.{Bool}
use Rattle.gq_events.specs.declared.documents.SessionDocument.{SessionDocument}
use Rattle.gq_events.specs.declared.effect.Effect.{Effect}
use Rattle.gq_events.specs.declared.event.Out.{Out}
use Rattle.gq_events.specs.declared.refusals.Denial.{Denial}
use Rattle.gq_events.specs.Documents.{docs_of}
use Rattle.gq_events.specs.Keeping.{KeepingOf, IsKeptOf}
use Rattle.gq_events.specs.Rules.{Session, changed_by, session_after, Replies}
use Rattle.gq_desk.specs.Helping.Settling.{rest_of}
use Rattle.gq_desk.proofs.Settled.{session_stays, changed_stays}

pub still_kept : (workers : ℕ) (s t : Session) (denied : Option Denial) (e rest : Effect) (before after : KeepingOf) (old new : List Out) → rest ≡ rest_of e → Replies workers s denied rest t old new
    → ((s : Session) (refused : Bool) → IsKeptOf before (docs_of s.documents) → IsKeptOf after (docs_of (session_after s e (changed_by s e refused)).documents))
    → IsKeptOf before (docs_of s.documents) → IsKeptOf after (docs_of t.documents)
still_kept workers s t denied e rest before after old new rest_is replied follows h =
    let r = replied.0 in
    subst (λ (x : Session). IsKeptOf after (docs_of x.documents)) (sym same) (follows s r h)
  where
    same : t ≡ session_after s e (changed_by s e replied.0)
    same =
        replied.1
        ∙ (ap (λ (x : Effect). session_after s x (changed_by s x replied.0)) rest_is
        ∙ (session_stays s e (changed_by s (rest_of e) replied.0) ∙ ap (session_after s e) (changed_stays s e replied.0)))
