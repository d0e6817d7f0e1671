-- The desk as a machine: a table of what is pending, a queue, and the numbers of the jobs that are out.
use Rattle.std.specs.Prelude.{◌≡◌, ℕ, ◌+◌, ◌-◌, Bool, not, ◌==◌, List, [], ◌∷◌, ◌++◌, length, map, filter, flat_map, take, drop, Option, Some, None, if◌then◌else◌}
use Rattle.gq_project.specs.declared.document.Doc.{Doc}
use Rattle.gq_events.specs.declared.documents.SessionDocument.{SessionDocument}
use Rattle.gq_events.specs.declared.event.Task.{Task}
use Rattle.gq_events.specs.Jobs.{JobOf}
use Rattle.gq_events.specs.declared.event.Answer.{Answer}
use Rattle.gq_events.specs.declared.event.Event.{Event}
use Rattle.gq_events.specs.declared.event.Out.{Out}
use Rattle.gq_events.specs.declared.event.Out.TheVariants as out
use Rattle.gq_events.specs.declared.refusals.Denial.{Denial}
use Rattle.gq_events.specs.declared.effect.Effect.{Effect}
use Rattle.gq_events.specs.Documents.{docs_of}
use Rattle.gq_events.specs.Rules.{Turn, Session, begun, effect_of, changed_by, session_after, decides, verdict, denied_by, taken, own, answer_to, FitsTaken, finishes, out_max}

-- the jobs that are pending, those of them that wait, the numbers of the jobs that are out, and the next number
pub record Table : Type 0 where
  pub pending : List JobOf
  pub waiting : List JobOf
  pub out : List ℕ
  pub next : ℕ

abbrev pub no_jobs : Table
no_jobs = record { pending = []; waiting = []; out = []; next = 1 }

-- those that an event of this effect leaves pending
abbrev pub left : List Doc → Effect → List JobOf → List JobOf
left docs e jobs = filter (λ job. not (decides docs e job)) jobs

abbrev pub still_out : Effect → List ℕ → List ℕ
still_out e out = filter (λ number. not (finishes number e)) out

abbrev pub settled : List Doc → Effect → Table → Table
settled docs e t = record { pending = left docs e t.pending; waiting = left docs e t.waiting; out = still_out e t.out; next = t.next }

-- the job that a task makes
abbrev pub job_for : ℕ → Option Task → List JobOf
job_for number None = []
job_for number (Some t) = record { number = number; task = t } ∷ []

abbrev pub with_jobs : Table → List JobOf → Table
with_jobs t jobs = record { pending = t.pending ++ jobs; waiting = t.waiting ++ jobs; out = t.out; next = t.next + length jobs }

-- the first that wait are handed on, while there is room
abbrev pub room_for : List ℕ → ℕ
room_for out = out_max - length out

abbrev pub next_jobs : Table → List JobOf
next_jobs t = take (room_for t.out) t.waiting

abbrev pub handed_on : Table → Table
handed_on t = record {
  pending = t.pending;
  waiting = drop (room_for t.out) t.waiting;
  out = t.out ++ map (λ job. job.number) (next_jobs t);
  next = t.next;
}

pub record State : Type 0 where
  pub session : Session
  pub workers : ℕ
  pub jobs : Table

abbrev pub start : ℕ → State
start workers = record { session = begun; workers = workers; jobs = no_jobs }

-- the task that an event brings
abbrev pub denied_in : Session → Table → Effect → Option Denial
denied_in session jobs e = denied_by session jobs.pending e

abbrev pub taken_by : Session → Table → Effect → Option Task
taken_by session jobs e = taken session (denied_in session jobs e) e

-- what is written for the jobs that an event decides
abbrev pub verdicts : List Doc → Effect → List JobOf → List Out
verdicts docs e pending = flat_map (verdict e) (filter (decides docs e) pending)

-- that, then its own reply
abbrev pub replies_to : ℕ → Session → Table → Effect → Option SessionDocument → List Out
replies_to workers session jobs e document = verdicts (docs_of session.documents) e jobs.pending ++ own workers session (denied_in session jobs e) e document

-- the jobs that a task makes, where there are workers
abbrev pub jobs_for : ℕ → ℕ → Option Task → List JobOf
jobs_for workers number t = if workers == 0 then [] else job_for number t

-- the jobs before those that wait are handed on, and after it
abbrev pub jobs_then : ℕ → Session → Table → Effect → Option Task → Table
jobs_then workers session jobs e t = with_jobs (settled (docs_of session.documents) e jobs) (jobs_for workers jobs.next t)

abbrev pub jobs_after : ℕ → Session → Table → Effect → Option Task → Table
jobs_after workers session jobs e t = handed_on (jobs_then workers session jobs e t)

-- with no workers, the answer to what the event brings; then the jobs that are handed on
abbrev pub brings : ℕ → Session → Table → Effect → Option Task → Answer → List Out
brings workers session jobs e t a =
    (if workers == 0 then answer_to t a else []) ++ map out.Job (next_jobs (jobs_then workers session jobs e t))

-- the state after an event of this effect, which leaves this document, and what its step puts out
abbrev pub after_effect : State → Effect → Option SessionDocument → State
after_effect s e document = record {
  session = session_after s.session e document;
  workers = s.workers;
  jobs = jobs_after s.workers s.session s.jobs e (taken_by s.session s.jobs e);
}

abbrev pub writes_effect : State → Effect → Option SessionDocument → Answer → List Out
writes_effect s e document a = replies_to s.workers s.session s.jobs e document ++ brings s.workers s.session s.jobs e (taken_by s.session s.jobs e) a

abbrev pub effect_in : State → Turn → Effect
effect_in s turn = effect_of s.session.phase s.session.documents turn.event

abbrev pub changed_in : State → Turn → Option SessionDocument
changed_in s turn = changed_by s.session (effect_in s turn) turn.text_refused

-- the state after a turn, and what its step puts out
abbrev pub after : State → Turn → State
after s turn = after_effect s (effect_in s turn) (changed_in s turn)

abbrev pub writes : State → Turn → List Out
writes s turn = writes_effect s (effect_in s turn) (changed_in s turn) turn.answer

-- with no workers, the answer of a step is one to the task that its event brings, about the documents after the event
abbrev pub FitsTurn : State → Turn → Type 0
FitsTurn s turn = s.workers ≡ 0 → FitsTaken (docs_of (after s turn).session.documents) (taken_by s.session s.jobs (effect_in s turn)) turn.answer

abbrev pub FitsRun : State → List Turn → Type 0
FitsRun s [] = Unit {0}
FitsRun s (turn ∷ turns) = FitsTurn s turn × FitsRun (after s turn) turns

-- one step for an event: its text may be refused memory, and its task has some answer
pub record Steps (s : State) (e : Event) (outs : List Out) (t : State) : Type 0 where
  pub text_refused : Bool
  pub answer : Answer
  pub fits : FitsTurn s (record { event = e; text_refused = text_refused; answer = answer })
  pub outputs : outs ≡ writes s (record { event = e; text_refused = text_refused; answer = answer })
  pub state : t ≡ after s (record { event = e; text_refused = text_refused; answer = answer })

-- that of a desk that has not failed, and does not
abbrev pub DeskSteps : Option State → Event → List Out → Option State → Type 0
DeskSteps (Some s) e outs (Some t) = Steps s e outs t
DeskSteps (Some s) e outs None = ⊥
DeskSteps None e outs t = ⊥

-- what a run puts out, step after step, and the state that it leads to
abbrev pub run : State → List Turn → List Out
run s [] = []
run s (turn ∷ turns) = writes s turn ++ run (after s turn) turns

abbrev pub reached : State → List Turn → State
reached s [] = s
reached s (turn ∷ turns) = reached (after s turn) turns
