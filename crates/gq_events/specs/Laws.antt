-- What the definitions mean: which event is the deciding one, what is answered, and what is handed on.
use Rattle.std.specs.Prelude.{Option, Some, None, ◌≡◌, ℕ, suc, ◌<◌, ◌≤◌, ◌^◌, ◌⊎◌, ◌↔◌, Bool, Contains, true, false, List, [], ◌∷◌, ◌++◌, map, filter, flat_map, length, ◌==◌, if◌then◌else◌}
use Rattle.std.specs.List.{AllByRecursion}
use Rattle.gq_project.specs.declared.document.DocChange.{DocChange}
use Rattle.gq_project.specs.Documents.{after_change}
use Rattle.gq_rpc.specs.declared.messages.Id.{Id}
use Rattle.gq_rpc.specs.declared.messages.CodeActionParams.{CodeActionParams}
use Rattle.gq_rpc.specs.declared.messages.Question.{Question}
use Rattle.gq_rpc.specs.declared.messages.Question.TheVariants as question
use Rattle.gq_rpc.specs.declared.messages.ResponseError.TheVariants as error
use Rattle.gq_rpc.specs.declared.messages.Outgoing.{Outgoing}
use Rattle.gq_rpc.specs.declared.messages.Outgoing.TheVariants as outgoing
use Rattle.gq_replies.specs.Answers.{IsAnswer, AreDiagnosticsMessages}
use Rattle.gq_events.specs.declared.documents.SessionDocument.{SessionDocument}
use Rattle.gq_events.specs.declared.event.Task.{Task}
use Rattle.gq_events.specs.declared.event.Task.TheVariants as task
use Rattle.gq_events.specs.Jobs.{JobOf, DoneOf}
use Rattle.gq_events.specs.declared.event.Event.{Event}
use Rattle.gq_events.specs.declared.event.Out.{Out}
use Rattle.gq_events.specs.declared.event.Out.TheVariants as out
use Rattle.gq_events.specs.declared.effect.Phase.TheVariants.{Stopped}
use Rattle.gq_events.specs.declared.effect.Change.{Change}
use Rattle.gq_events.specs.declared.effect.Change.TheVariants as change
use Rattle.gq_events.specs.declared.effect.Effect.{Effect}
use Rattle.gq_events.specs.declared.effect.Effect.TheVariants as effect
use Rattle.gq_events.specs.Documents.{IsInOrder, document_at, key_of, published}
use Rattle.gq_events.specs.Tasks.{is_of, Answers}
use Rattle.gq_events.specs.Rules.{Turn, nothing_wrong, own, answer_to, decides, out_max}
use Rattle.gq_events.specs.History.{Asked, may_decide, is_decided_at, session_at, docs_at, encoding_at, effect_at, changed_at, turn_at, denied_at, taken_at, pending_at, is_out, outputs, outputs_at, outputs_behind, handed_at, handed_before, IsAnswered}
use Rattle.gq_events.specs.Machine.{State, Steps, start, run, reached}

-- step by step, a desk puts out what the list of events tells, behind whatever it took before
abbrev pub StepsTellHistory : Type 0
StepsTellHistory = (workers : ℕ) (earlier turns : List Turn) → run (reached (start workers) earlier) turns ≡ outputs_behind workers earlier turns

-- what earlier events put out is the same, whatever comes behind them
abbrev pub OutputsGoOn : Type 0
OutputsGoOn = (workers : ℕ) (earlier turns : List Turn) → outputs workers (earlier ++ turns) ≡ outputs workers earlier ++ outputs_behind workers earlier turns

-- from each state an event leads on
abbrev pub StepsExist : Type 0
StepsExist = (s : State) (e : Event) → (outs : List Out) × (t : State) × Steps s e outs t

-- with no workers, an event's own reply is put out, and then the answer to the task that it brings
abbrev pub AnsweredAtOnce : Type 0
AnsweredAtOnce = (events : List Turn) (j : ℕ) → outputs_at 0 events j
    ≡ own 0 (session_at events j) (denied_at events j []) (effect_at events j) (changed_at events j) ++ answer_to (taken_at events j []) (turn_at events j).answer

-- ---- which event decides

-- the event at place j is the first after the job's own that decides it
pub record IsFirst (events : List Turn) (asked : Asked) (j : ℕ) : Type 0 where
  pub later : asked.place < j
  pub decides : may_decide events asked j ≡ true
  pub none_before : (k : ℕ) → asked.place < k → k < j → may_decide events asked k ≡ false

abbrev pub DecidedAtFirst : Type 0
DecidedAtFirst = (events : List Turn) (asked : Asked) (j : ℕ) → asked.place < j → (is_decided_at events j asked ≡ true ↔ IsFirst events asked j)

-- so there is one such place at most
abbrev pub DecidedOnce : Type 0
DecidedOnce = (events : List Turn) (asked : Asked) (j k : ℕ) → IsFirst events asked j → IsFirst events asked k → j ≡ k

-- what a worker made of a job decides one job at most
abbrev pub OneIsDecided : Type 0
OneIsDecided = (workers : ℕ) (events : List Turn) (j : ℕ) (done : DoneOf) → length (filter (decides (docs_at events j) (effect.Finishes done)) (pending_at workers events j)) ≤ 1

-- no other job that is pending is for the request of this task
abbrev pub Differs : Task → Task → Type 0
Differs (task.Check encoding) other = Unit {0}
Differs (task.Ask encoding id q) other = is_of id other ≡ false

abbrev pub HaveOwnIds : List JobOf → Type 0
HaveOwnIds [] = Unit {0}
HaveOwnIds (job ∷ jobs) = AllByRecursion (λ other. Differs job.task other.task) jobs × HaveOwnIds jobs

abbrev pub PendingHaveOwnIds : Type 0
PendingHaveOwnIds = (workers : ℕ) (events : List Turn) (j : ℕ) → HaveOwnIds (pending_at workers events j)

-- ---- what is answered

-- what a worker made of a job, where that is taken, is the defined answer to its task, about the documents as they were when it was asked
abbrev pub AnswersAreDefined : Type 0
AnswersAreDefined = (events : List Turn) (asked : Asked) (j : ℕ) (done : DoneOf) → IsFirst events asked j → effect_at events j ≡ effect.Finishes done
    → Answers (docs_at events (suc asked.place)) asked.job.task done.answer

-- a message that gives what a question asks for
abbrev pub is_result : Outgoing → Bool
is_result (outgoing.Initialized id capabilities) = false
is_result (outgoing.ShutDown id) = false
is_result (outgoing.Completions id items) = true
is_result (outgoing.Hover id hover) = true
is_result (outgoing.Locations id locations) = true
is_result (outgoing.Prepared id prepared) = true
is_result (outgoing.Renamed id edit) = true
is_result (outgoing.CodeActions id actions) = true
is_result (outgoing.Error id why) = false
is_result (outgoing.Diagnostics params) = false

-- the message is the defined answer to a question that was asked, under its id, about the documents as they were then, and still are, with
-- positions in the session's encoding
pub record IsOwnAnswer (events : List Turn) (j : ℕ) (message : Outgoing) : Type 0 where
  pub place : ℕ
  pub id : Id
  pub question : Question
  pub earlier : place ≤ j
  pub asks : effect_at events place ≡ effect.Asks id (Some question)
  pub still : docs_at events place ≡ docs_at events (suc j)
  pub is : IsAnswer (encoding_at events place) (docs_at events place) id question message

-- the message tells a client that takes no code actions that there is none
pub record IsNoActions (events : List Turn) (j : ℕ) (message : Outgoing) : Type 0 where
  pub id : Id
  pub params : CodeActionParams
  pub asks : effect_at events j ≡ effect.Asks id (Some (question.CodeAction params))
  pub takes_none : (session_at events j).code_actions ≡ false
  pub is : message ≡ outgoing.CodeActions id []

-- the message tells that a document, which the event at place j closes, has nothing wrong in it
pub record IsClearing (events : List Turn) (j : ℕ) (message : Outgoing) : Type 0 where
  pub key : List ℕ
  pub document : SessionDocument
  pub closes : effect_at events j ≡ effect.Changes (change.Close key)
  pub was_open : document_at key (session_at events j).documents ≡ Some document
  pub is : out.Notify message ≡ nothing_wrong document

-- it is one of those that the check after a change defines, about the documents as they were then, with positions in the session's encoding
pub record IsOfCheck (events : List Turn) (j : ℕ) (message : Outgoing) : Type 0 where
  pub place : ℕ
  pub change : Change
  pub messages : List Outgoing
  pub earlier : place ≤ j
  pub changes : effect_at events place ≡ effect.Changes change
  pub are : AreDiagnosticsMessages (encoding_at events place) (docs_at events (suc place)) messages
  pub among : Contains messages message

abbrev pub IsRightOutput : List Turn → ℕ → Out → Type 0
IsRightOutput events j (out.Reply message) = is_result message ≡ true → ∥ IsOwnAnswer events j message ⊎ IsNoActions events j message ∥₁
IsRightOutput events j (out.Notify message) = ∥ IsClearing events j message ⊎ IsOfCheck events j message ∥₁
IsRightOutput events j (out.Publish change) = Unit {0}
IsRightOutput events j (out.Job job) = Unit {0}
IsRightOutput events j (out.Stop status) = Unit {0}

-- each result that is replied is exactly its question's, where the client takes such results, and each notification that of a
-- check or of a close
abbrev pub ResultsAreTheirQuestions : Type 0
ResultsAreTheirQuestions = (workers : ℕ) (events : List Turn) (j : ℕ) → IsAnswered workers events j → AllByRecursion (IsRightOutput events j) (outputs_at workers events j)

-- the reply that the content was modified
abbrev pub tells_modified : Out → Type 0
tells_modified (out.Reply message) = (id : Option Id) × (message ≡ outgoing.Error id error.ContentModified)
tells_modified (out.Notify message) = ⊥
tells_modified (out.Publish change) = ⊥
tells_modified (out.Job job) = ⊥
tells_modified (out.Stop status) = ⊥

-- stands at a change
abbrev pub ModifiedAtChange : Type 0
ModifiedAtChange = (workers : ℕ) (events : List Turn) (j : ℕ) → IsAnswered workers events j
    → AllByRecursion (λ o. tells_modified o → (c : Change) × (effect_at events j ≡ effect.Changes c)) (outputs_at workers events j)

-- after a stop nothing is put out, whatever comes
abbrev pub SilentAfterStop : Type 0
SilentAfterStop = (workers : ℕ) (events : List Turn) (j : ℕ) → (session_at events j).phase ≡ Stopped → outputs_at workers events j ≡ []

-- ---- what is handed on

-- numbers that ascend, from low on and below high
abbrev pub AreAscending : ℕ → List ℕ → ℕ → Type 0
AreAscending low [] high = low ≤ high
AreAscending low (n ∷ ns) high = (low ≤ n) × AreAscending (suc n) ns high

-- jobs are handed on in order of their numbers, so each once
abbrev pub HandedInOrder : Type 0
HandedInOrder = (workers : ℕ) (events : List Turn) (j : ℕ) → (high : ℕ) × AreAscending 1 (map (λ h. h.number) (handed_before workers events j)) high

-- at most so many jobs are out
abbrev pub OutIsBounded : Type 0
OutIsBounded = (workers : ℕ) (events : List Turn) (j : ℕ) → length (filter (is_out events j) (handed_before workers events j)) ≤ out_max

-- what is handed on to those who answer: changes and jobs
pub data Handing : Type 0 where
  Published : DocChange → Handing
  Given : JobOf → Handing

abbrev pub handing_of : Out → List Handing
handing_of (out.Reply message) = []
handing_of (out.Notify message) = []
handing_of (out.Publish change) = Published change ∷ []
handing_of (out.Job job) = Given job ∷ []
handing_of (out.Stop status) = []

abbrev pub handings : List Out → List Handing
handings outs = flat_map handing_of outs

-- the change that an event of this effect hands on, if it is one
abbrev pub published_by : Effect → Option SessionDocument → List Handing
published_by (effect.Changes c) document = Published (published (key_of c) document) ∷ []
published_by effect.Nothing document = []
published_by (effect.LoadsBehind load) document = []
published_by (effect.Begins id capabilities) document = []
published_by (effect.Refuses id why) document = []
published_by (effect.Asks id asked) document = []
published_by (effect.Cancels id) document = []
published_by (effect.ShutsDown id) document = []
published_by (effect.Finishes done) document = []
published_by (effect.Stops status) document = []

-- in the step of an event its change is handed on, where it is one and there are workers, and then the jobs that the list of events tells
abbrev pub HandedOnInItsStep : Type 0
HandedOnInItsStep = (workers : ℕ) (events : List Turn) (j : ℕ)
    → handings (outputs_at workers events j)
    ≡ (if workers == 0 then [] else published_by (effect_at events j) (changed_at events j)) ++ map Given (handed_at workers events j (handed_before workers events j))

-- with no workers nothing is handed on
abbrev pub NothingIsHandedToNone : Type 0
NothingIsHandedToNone = (events : List Turn) (j : ℕ) → handings (outputs_at 0 events j) ≡ []

-- the documents after a change are those before it, changed as it is published
abbrev pub ChangesArePublished : Type 0
ChangesArePublished = (events : List Turn) (j : ℕ) (c : Change) → effect_at events j ≡ effect.Changes c
    → docs_at events (suc j) ≡ after_change (docs_at events j) (published (key_of c) (changed_at events j))

-- ---- what the documents are

-- they stand in order of key, a text has at most 4 MiB, and a lost document has the empty one
pub record AreKept (documents : List SessionDocument) : Type 0 where
  pub in_order : IsInOrder documents
  pub texts : AllByRecursion (λ document. length document.text ≤ 2 ^ 22) documents
  pub lost : AllByRecursion (λ document. document.lost ≡ true → document.text ≡ []) documents

abbrev pub DocumentsAreKept : Type 0
DocumentsAreKept = (events : List Turn) (j : ℕ) → AreKept (session_at events j).documents

-- so are those behind open documents, and none of them is open
pub record AreBehind (documents : List SessionDocument) : Type 0 where
  pub kept : AreKept documents
  pub loaded : AllByRecursion (λ document. document.version ≡ None) documents

abbrev pub DocumentsBehindAreKept : Type 0
DocumentsBehindAreKept = (events : List Turn) (j : ℕ) → AreBehind (session_at events j).behind
