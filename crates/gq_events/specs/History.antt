-- What the desk puts out for a list of events, told from the list: places in it count from 0.
use Rattle.std.specs.Prelude.{◌≡◌, ℕ, zero, suc, ◌+◌, ◌-◌, Bool, false, not, ◌||◌, ◌&&◌, ◌==◌, nat_lt, List, [], ◌∷◌, ◌++◌, length, map, filter, flat_map, take, slice_index_or, Option, Some, None, if◌then◌else◌}
use Rattle.std.specs.List.{list_any}
use Rattle.gq_text.specs.declared.place.PositionEncoding.{PositionEncoding}
use Rattle.gq_project.specs.declared.document.Doc.{Doc}
use Rattle.gq_rpc.specs.declared.messages.Incoming.TheVariants as incoming
use Rattle.gq_events.specs.declared.documents.SessionDocument.{SessionDocument}
use Rattle.gq_events.specs.declared.event.Task.{Task}
use Rattle.gq_events.specs.Jobs.{JobOf}
use Rattle.gq_events.specs.declared.event.Answer.TheVariants as answer
use Rattle.gq_events.specs.declared.event.Event.TheVariants as event
use Rattle.gq_events.specs.declared.event.Out.{Out}
use Rattle.gq_events.specs.declared.event.Out.TheVariants as out
use Rattle.gq_events.specs.declared.refusals.Denial.{Denial}
use Rattle.gq_events.specs.declared.effect.Effect.{Effect}
use Rattle.gq_events.specs.Documents.{docs_of}
use Rattle.gq_events.specs.Rules.{Turn, Session, begun, effect_of, changed_by, session_after, decides, verdict, denied_by, taken, own, answer_to, FitsTaken, finishes, out_max}

-- nothing comes
abbrev pub idle : Turn
idle = record { event = event.Message incoming.Ignored; text_refused = false; answer = answer.NoMemory }

abbrev pub turn_at : List Turn → ℕ → Turn
turn_at events j = slice_index_or events j idle

-- ---- the session and its documents

abbrev pub session_step : Session → Turn → Session
session_step s turn = session_after s (effect_of s.phase s.documents turn.event) (changed_by s (effect_of s.phase s.documents turn.event) turn.text_refused)

-- the session before the event at place j: the fold of those before it
abbrev pub session_at : List Turn → ℕ → Session
session_at events zero = begun
session_at events (suc j) = session_step (session_at events j) (turn_at events j)

abbrev pub docs_at : List Turn → ℕ → List Doc
docs_at events j = docs_of (session_at events j).documents

abbrev pub encoding_at : List Turn → ℕ → PositionEncoding
encoding_at events j = (session_at events j).position_encoding

abbrev pub effect_at : List Turn → ℕ → Effect
effect_at events j = effect_of (session_at events j).phase (session_at events j).documents (turn_at events j).event

-- the document that the event at place j leaves, if it leaves one
abbrev pub changed_at : List Turn → ℕ → Option SessionDocument
changed_at events j = changed_by (session_at events j) (effect_at events j) (turn_at events j).text_refused

-- ---- which jobs are pending

-- the test holds at some place after i and before j
abbrev pub is_between : (ℕ → Bool) → ℕ → ℕ → Bool
is_between test i zero = false
is_between test i (suc k) = is_between test i k || (nat_lt i k && test k)

-- a job, and the place of the event that brought its task
pub record Asked : Type 0 where
  pub place : ℕ
  pub job : JobOf

-- the event at place k decides it, if nothing before that did
abbrev pub may_decide : List Turn → Asked → ℕ → Bool
may_decide events asked k = decides (docs_at events k) (effect_at events k) asked.job

-- no event after the one that brought it, and before place j, decides it
abbrev pub is_pending : List Turn → ℕ → Asked → Bool
is_pending events j asked = not (is_between (may_decide events asked) asked.place j)

-- the first event that decides it is that at place j
abbrev pub is_decided_at : List Turn → ℕ → Asked → Bool
is_decided_at events j asked = is_pending events j asked && may_decide events asked j

abbrev pub pending_of : List Turn → ℕ → List Asked → List JobOf
pending_of events j asked = map (λ a. a.job) (filter (is_pending events j) asked)

-- ---- which jobs there are

-- the task that the event at place j brings, after those that were asked before it
abbrev pub denied_at : List Turn → ℕ → List Asked → Option Denial
denied_at events j before = denied_by (session_at events j) (pending_of events j before) (effect_at events j)

abbrev pub taken_at : List Turn → ℕ → List Asked → Option Task
taken_at events j before = taken (session_at events j) (denied_at events j before) (effect_at events j)

-- its job
abbrev pub numbered : ℕ → ℕ → Option Task → List Asked
numbered j number None = []
numbered j number (Some t) = record { place = j; job = record { number = number; task = t } } ∷ []

-- all jobs that were made before place j, in order, numbered from 1: none without workers
abbrev pub asked_before : ℕ → List Turn → ℕ → List Asked
asked_before workers events zero = []
asked_before workers events (suc j) =
    asked_before workers events j
    ++ (if workers == 0 then [] else numbered j (length (asked_before workers events j) + 1) (taken_at events j (asked_before workers events j)))

abbrev pub pending_at : ℕ → List Turn → ℕ → List JobOf
pending_at workers events j = pending_of events j (asked_before workers events j)

-- ---- which jobs are handed on

-- the number of a job that was handed on, and in which step
pub record Handed : Type 0 where
  pub place : ℕ
  pub number : ℕ

-- no event after that step and before place j ends a job of its number
abbrev pub is_out : List Turn → ℕ → Handed → Bool
is_out events j handed = not (is_between (λ k. finishes handed.number (effect_at events k)) handed.place j)

-- it was not handed on
abbrev pub is_waiting : List Handed → JobOf → Bool
is_waiting handed job = not (list_any (λ h. h.number == job.number) handed)

-- what waits when the event at place j has come
abbrev pub waiting_at : ℕ → List Turn → ℕ → List Handed → List JobOf
waiting_at workers events j handed = filter (is_waiting handed) (pending_of events (suc j) (asked_before workers events (suc j)))

-- and what is then handed on: the first of these, while fewer jobs are out than may be
abbrev pub handed_at : ℕ → List Turn → ℕ → List Handed → List JobOf
handed_at workers events j handed = take (out_max - length (filter (is_out events (suc j)) handed)) (waiting_at workers events j handed)

abbrev pub handed_in : ℕ → List JobOf → List Handed
handed_in j jobs = map (λ job. record { place = j; number = job.number }) jobs

-- all that was handed on before place j, in order
abbrev pub handed_before : ℕ → List Turn → ℕ → List Handed
handed_before workers events zero = []
handed_before workers events (suc j) = handed_before workers events j ++ handed_in j (handed_at workers events j (handed_before workers events j))

-- ---- what is put out

-- what is written for the jobs that the event at place j is the first to decide, in the order in which they came
abbrev pub decided_at : ℕ → List Turn → ℕ → List Out
decided_at workers events j = flat_map (λ asked. verdict (effect_at events j) asked.job) (filter (is_decided_at events j) (asked_before workers events j))

-- with no workers, the answer to what the event brings
abbrev pub at_once : ℕ → List Turn → ℕ → List Out
at_once workers events j =
    if workers == 0 then answer_to (taken_at events j (asked_before workers events j)) (turn_at events j).answer else []

-- what the step of the event at place j puts out
abbrev pub outputs_at : ℕ → List Turn → ℕ → List Out
outputs_at workers events j =
    decided_at workers events j
    ++ own workers (session_at events j) (denied_at events j (asked_before workers events j)) (effect_at events j) (changed_at events j)
    ++ (at_once workers events j
    ++ map out.Job (handed_at workers events j (handed_before workers events j)))

-- what the events at so many places put out, from place i on
abbrev pub outputs_from : ℕ → List Turn → (i count : ℕ) → List Out
outputs_from workers events i zero = []
outputs_from workers events i (suc count) = outputs_at workers events i ++ outputs_from workers events (suc i) count

-- what all of them put out
abbrev pub outputs : ℕ → List Turn → List Out
outputs workers events = outputs_from workers events 0 (length events)

-- what events put out that come behind earlier ones
abbrev pub outputs_behind : ℕ → (earlier events : List Turn) → List Out
outputs_behind workers earlier events = outputs_from workers (earlier ++ events) (length earlier) (length events)

-- with no workers, each task is answered by an answer to it, about the documents after its event
abbrev pub IsAnswered : ℕ → List Turn → ℕ → Type 0
IsAnswered workers events j = workers ≡ 0 → FitsTaken (docs_at events (suc j)) (taken_at events j (asked_before workers events j)) (turn_at events j).answer
