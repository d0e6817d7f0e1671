-- What the parts of a step come to.
use Rattle.std.proofs.Common.{◌≡◌, ℕ, ◌==◌, Bool, List, [], ◌++◌, map, Option, Result, Ok, Err, OnOk, ap, refl, ◌∙◌, subst}
use Rattle.std.specs.Prelude.{if◌then◌else◌}
use Rattle.std.proofs.lemmas.List.{append_assoc}
use Rattle.gq_text.specs.declared.buffer.NoMemory.{NoMemory}
use Rattle.gq_events.specs.declared.documents.SessionDocument.{SessionDocument}
use Rattle.gq_events.specs.declared.event.Task.{Task}
use Rattle.gq_events.specs.declared.event.Answer.{Answer}
use Rattle.gq_events.specs.declared.event.Event.{Event}
use Rattle.gq_events.specs.declared.event.Out.{Out}
use Rattle.gq_events.specs.declared.event.Out.TheVariants as out
use Rattle.gq_events.specs.declared.refusals.Denial.{Denial}
use Rattle.gq_events.specs.declared.effect.Effect.{Effect}
use Rattle.gq_events.specs.Documents.{docs_of}
use Rattle.gq_events.specs.Rules.{FitsTaken, Session, effect_of, changed_by, session_after, denied_by, taken, own, answer_to}
use Rattle.gq_events.specs.Machine.{Table, State, settled, with_jobs, jobs_for, jobs_then, next_jobs, handed_on, taken_by, verdicts, replies_to, brings, jobs_after, Steps}
use Rattle.gq_desk.specs.Helping.Settling.{rest_of}
use Rattle.gq_desk.proofs.Settled.{session_stays, changed_stays, own_stays, taken_stays}

abbrev state : Session → ℕ → Table → State
state session workers jobs = record { session = session; workers = workers; jobs = jobs }

module _ (s : State) (event : Event) (e : Effect) (document : Option SessionDocument) (t : Option Task) (mid new : List Out) (session : Session) (jobs : Table) where
  -- some answer was given, one to the question where there are no workers
  abbrev Given : Type 0
  Given = (a : Answer) × (s.workers ≡ 0 → FitsTaken (docs_of session.documents) t a) × (new ≡ mid ++ brings s.workers s.session s.jobs e t a)

  done : e ≡ effect_of s.session.phase s.session.documents event → (r : Bool) × (document ≡ changed_by s.session e r) → mid ≡ replies_to s.workers s.session s.jobs e document
      → t ≡ taken_by s.session s.jobs e → session ≡ session_after s.session e document → jobs ≡ jobs_after s.workers s.session s.jobs e t → Given → Steps s event new (state session s.workers jobs)
  done e_is d_is mid_is t_is session_is jobs_is given =
      let ss = s.session in
      let sj = s.jobs in
      let w = s.workers in
      let a = given.0 in
      record {
        text_refused = d_is.0;
        answer = a;
        fits = λ alone.
            subst (λ (e : Effect). FitsTaken (docs_of (session_after ss e (changed_by ss e d_is.0)).documents) (taken_by ss sj e) a) e_is
            (subst (λ (d : Option SessionDocument). FitsTaken (docs_of (session_after ss e d).documents) (taken_by ss sj e) a) d_is.1
            (subst (λ (x : Option Task). FitsTaken (docs_of (session_after ss e document).documents) x a) t_is
            (subst (λ (x : Session). FitsTaken (docs_of x.documents) t a) session_is (given.1 alone))));
        outputs = given.2
            ∙ (ap (λ (l : List Out). l ++ brings w ss sj e t a) mid_is
            ∙ (ap (λ (t : Option Task). replies_to w ss sj e document ++ brings w ss sj e t a) t_is
            ∙ (ap (λ (d : Option SessionDocument). replies_to w ss sj e d ++ brings w ss sj e (taken_by ss sj e) a) d_is.1
            ∙ ap (λ (e : Effect). replies_to w ss sj e (changed_by ss e d_is.0) ++ brings w ss sj e (taken_by ss sj e) a) e_is)));
        state = ap (λ (x : Session). state x w jobs) session_is
            ∙ (ap (λ (x : Table). state (session_after ss e document) w x) jobs_is
            ∙ (ap (λ (t : Option Task). state (session_after ss e document) w (jobs_after w ss sj e t)) t_is
            ∙ (ap (λ (d : Option SessionDocument). state (session_after ss e d) w (jobs_after w ss sj e (taken_by ss sj e))) d_is.1
            ∙ ap (λ (e : Effect). state (session_after ss e (changed_by ss e d_is.0)) w (jobs_after w ss sj e (taken_by ss sj e))) e_is)));
      }

-- an event's own reply is that of what is left of it
abbrev pub Replied : ℕ → Session → Option Denial → Effect → Session → List Out → List Out → Type 0
Replied workers s denied e t old new = (r : Bool) × (t ≡ session_after s e (changed_by s e r)) × (new ≡ old ++ own workers s denied e (changed_by s e r))

whole : (workers : ℕ) (s t : Session) (denied : Option Denial) (e : Effect) (old new : List Out) → Replied workers s denied (rest_of e) t old new → Replied workers s denied e t old new
whole workers s t denied e old new replied =
    let r = replied.0 in (
      r,
      replied.1 ∙ (session_stays s e (changed_by s (rest_of e) r) ∙ ap (session_after s e) (changed_stays s e r)),
      replied.2 ∙ ap (λ (l : List Out). old ++ l) (own_stays workers s denied e (changed_by s (rest_of e) r) ∙ ap (own workers s denied e) (changed_stays s e r)),
    )

module _ (s : State) (event : Event) (e rest : Effect) (denied : Option Denial) (task : Option Task) (told mid brought new : List Out) (session : Session) (settled_jobs jobs jobs' : Table) where
  -- what a step tells, up to what it hands on
  abbrev Brought : Type 0
  Brought = (a : Answer) × (s.workers ≡ 0 → FitsTaken (docs_of session.documents) task a) × (brought ≡ mid ++ (if s.workers == 0 then answer_to task a else []))

  joined : e ≡ effect_of s.session.phase s.session.documents event → denied ≡ denied_by s.session s.jobs.pending e → rest ≡ rest_of e → settled_jobs ≡ settled (docs_of s.session.documents) e s.jobs
      → told ≡ verdicts (docs_of s.session.documents) e s.jobs.pending → task ≡ taken s.session denied rest → Replied s.workers s.session denied rest session told mid
      → jobs ≡ with_jobs settled_jobs (jobs_for s.workers settled_jobs.next task) → Brought → jobs' ≡ handed_on jobs → new ≡ brought ++ map out.Job (next_jobs jobs) → Steps s event new (state session s.workers jobs')
  joined e_is denied_is rest_is settled_is told_is task_is replied jobs_is given handed_is new_is =
      let ss = s.session in
      let sj = s.jobs in
      let w = s.workers in
      let by_event = whole w ss session denied e told mid (subst (λ (x : Effect). Replied w ss denied x session told mid) rest_is replied) in
      let d = changed_by ss e by_event.0 in
      let t_is : task ≡ taken_by ss sj e = task_is ∙ (ap (taken ss denied) rest_is ∙ (taken_stays ss denied e ∙ ap (λ (x : Option Denial). taken ss x e) denied_is)) in
      let then_is : jobs ≡ jobs_then w ss sj e task = jobs_is ∙ ap (λ (x : Table). with_jobs x (jobs_for w x.next task)) settled_is in
      let mid_is : mid ≡ replies_to w ss sj e d =
      by_event.2 ∙ (ap (λ (l : List Out). l ++ own w ss denied e d) told_is ∙ ap (λ (x : Option Denial). verdicts (docs_of ss.documents) e sj.pending ++ own w ss x e d) denied_is) in
      let a = given.0 in
      let new_then : new ≡ mid ++ brings w ss sj e task a =
      new_is ∙ (ap (λ (l : List Out). l ++ map out.Job (next_jobs jobs)) given.2
      ∙ (append_assoc mid (if w == 0 then answer_to task a else []) (map out.Job (next_jobs jobs))
      ∙ ap (λ (x : Table). mid ++ ((if w == 0 then answer_to task a else []) ++ map out.Job (next_jobs x))) then_is)) in
      done s event e d task mid new session jobs' e_is (by_event.0, refl) mid_is t_is by_event.1 (handed_is ∙ ap handed_on then_is) (a, given.1, new_then)

  pub stepped : (result : Result (Unit {0}) NoMemory) → e ≡ effect_of s.session.phase s.session.documents event → denied ≡ denied_by s.session s.jobs.pending e → rest ≡ rest_of e
      → settled_jobs ≡ settled (docs_of s.session.documents) e s.jobs → told ≡ verdicts (docs_of s.session.documents) e s.jobs.pending → task ≡ taken s.session denied rest
      → Replied s.workers s.session denied rest session told mid → jobs ≡ with_jobs settled_jobs (jobs_for s.workers settled_jobs.next task) → Brought
      → OnOk result (jobs' ≡ handed_on jobs) → OnOk result (new ≡ brought ++ map out.Job (next_jobs jobs)) → OnOk result (Steps s event new (state session s.workers jobs'))
  stepped (Ok u) e_is denied_is rest_is settled_is told_is task_is replied jobs_is given handed_is new_is =
      joined e_is denied_is rest_is settled_is told_is task_is replied jobs_is given handed_is new_is
  stepped (Err why) e_is denied_is rest_is settled_is told_is task_is replied jobs_is given handed_is new_is = tt

-- what is written first
pub from_none : (old told new : List Out) → old ≡ [] → new ≡ old ++ told → new ≡ told
from_none old told new none is = rw none at is
