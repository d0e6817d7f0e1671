-- What one event does, by how far the session has come and by what is pending.
use Rattle.std.specs.Prelude.{◌≡◌, ℕ, Bool, true, false, ◌&&◌, not, ◌==◌, nat_le, List, [], ◌∷◌, ◌++◌, map, count_by, codes, option_map, option_to_list, Option, Some, None, if◌then◌else◌}
use Rattle.std.specs.List.{list_any}
use Rattle.gq_text.specs.declared.place.PositionEncoding.{PositionEncoding}
use Rattle.gq_project.specs.declared.document.Doc.{Doc}
use Rattle.gq_project.specs.declared.document.DocChange.{DocChange}
use Rattle.gq_rpc.specs.declared.messages.Id.{Id}
use Rattle.gq_rpc.specs.declared.messages.ClientCapabilities.{ClientCapabilities}
use Rattle.gq_rpc.specs.declared.messages.ServerCapabilities.{ServerCapabilities}
use Rattle.gq_rpc.specs.declared.messages.DidChangeParams.{DidChangeParams}
use Rattle.gq_rpc.specs.declared.messages.Question.{Question}
use Rattle.gq_rpc.specs.declared.messages.Question.TheVariants as question
use Rattle.gq_rpc.specs.declared.messages.Request.{Request}
use Rattle.gq_rpc.specs.declared.messages.Request.TheVariants as request
use Rattle.gq_rpc.specs.declared.messages.Notification.{Notification}
use Rattle.gq_rpc.specs.declared.messages.Notification.TheVariants as notification
use Rattle.gq_rpc.specs.declared.messages.Incoming.{Incoming}
use Rattle.gq_rpc.specs.declared.messages.Incoming.TheVariants as incoming
use Rattle.gq_rpc.specs.declared.messages.ResponseError.{ResponseError}
use Rattle.gq_rpc.specs.declared.messages.ResponseError.TheVariants as error
use Rattle.gq_rpc.specs.declared.messages.Outgoing.{Outgoing}
use Rattle.gq_rpc.specs.declared.messages.Outgoing.TheVariants as outgoing
use Rattle.gq_events.specs.declared.documents.SessionDocument.{SessionDocument}
use Rattle.gq_events.specs.declared.event.Task.{Task}
use Rattle.gq_events.specs.declared.event.Task.TheVariants as task
use Rattle.gq_events.specs.Jobs.{JobOf}
use Rattle.gq_events.specs.declared.event.Answer.{Answer}
use Rattle.gq_events.specs.declared.event.Answer.TheVariants as answer
use Rattle.gq_events.specs.declared.event.Load.{Load}
use Rattle.gq_events.specs.declared.event.InputEnd.{InputEnd}
use Rattle.gq_events.specs.declared.event.InputEnd.TheVariants.{Border, Fault}
use Rattle.gq_events.specs.declared.event.Event.{Event}
use Rattle.gq_events.specs.declared.event.Event.TheVariants as event
use Rattle.gq_events.specs.declared.event.Out.{Out}
use Rattle.gq_events.specs.declared.event.Out.TheVariants as out
use Rattle.gq_events.specs.declared.refusals.Denial.{Denial}
use Rattle.gq_events.specs.declared.refusals.Denial.TheVariants as denial
use Rattle.gq_events.specs.declared.effect.Phase.{Phase}
use Rattle.gq_events.specs.declared.effect.Phase.TheVariants.{Fresh, Running, Down, Stopped}
use Rattle.gq_events.specs.declared.effect.Change.{Change}
use Rattle.gq_events.specs.declared.effect.Change.TheVariants as change
use Rattle.gq_events.specs.declared.effect.Effect.{Effect}
use Rattle.gq_events.specs.declared.effect.Effect.TheVariants as effect
use Rattle.gq_events.specs.Positions.{default_encoding, encoding_for}
use Rattle.gq_events.specs.Documents.{document_at, is_open, is_any_lost, is_change, is_one_too_many, changed, loaded, key_of, with_changed, behind_after, published}
use Rattle.gq_events.specs.Tasks.{same_task, same_docs, place_of, is_of, is_ask, Answers, is_superseded}

-- an event, and what was free to choose: whether the edit that it is was refused memory, and the answer to the task that
-- it brings, where there is no worker to answer that
pub record Turn : Type 0 where
  pub event : Event
  pub text_refused : Bool
  pub answer : Answer

-- How far the session has come, what the characters of its positions are counted in, whether its client takes edits with versions, code actions
-- with such edits, and diagnostics; its documents, open or loaded, in order of key; and behind open ones those that were loaded, which are
-- its documents again once these are closed.
pub record Session : Type 0 where
  pub phase : Phase
  pub position_encoding : PositionEncoding
  pub document_changes : Bool
  pub code_actions : Bool
  pub diagnostics : Bool
  pub documents : List SessionDocument
  pub behind : List SessionDocument

abbrev pub begun : Session
begun = record { phase = Fresh; position_encoding = default_encoding; document_changes = false; code_actions = false; diagnostics = false; documents = []; behind = [] }

-- ---- what an event comes to (LSP 3.17, "Server lifecycle")

-- a request before `initialize`, while the session runs, and after `shutdown`
abbrev pub effect_of_request : Phase → Id → Request → Effect
effect_of_request Fresh id (request.Initialize capabilities) = effect.Begins id capabilities
effect_of_request Fresh id request.Shutdown = effect.Refuses (Some id) error.NotInitialized
effect_of_request Fresh id (request.Ask question) = effect.Refuses (Some id) error.NotInitialized
effect_of_request Fresh id request.InvalidParams = effect.Refuses (Some id) error.NotInitialized
effect_of_request Fresh id request.Unknown = effect.Refuses (Some id) error.NotInitialized
effect_of_request Running id (request.Initialize capabilities) = effect.Refuses (Some id) error.InvalidRequest
effect_of_request Running id request.Shutdown = effect.ShutsDown id
effect_of_request Running id (request.Ask question) = effect.Asks id (Some question)
effect_of_request Running id request.InvalidParams = effect.Asks id None
effect_of_request Running id request.Unknown = effect.Refuses (Some id) error.MethodNotFound
effect_of_request Down id r = effect.Refuses (Some id) error.InvalidRequest
effect_of_request Stopped id r = effect.Nothing

-- the status of the process at `exit`: 0 after a shutdown, else 1
abbrev pub exit_status : Phase → ℕ
exit_status Fresh = 1
exit_status Running = 1
exit_status Down = 0
exit_status Stopped = 1

-- a notification of a running session
abbrev pub effect_of_change : List SessionDocument → Change → Effect
effect_of_change documents c = if is_change documents c then effect.Changes c else effect.Nothing

abbrev pub effect_while_running : List SessionDocument → Notification → Effect
effect_while_running documents (notification.DidOpen item) = effect_of_change documents (change.Open item)
effect_while_running documents (notification.DidChange params) = effect_of_change documents (change.Edit params)
effect_while_running documents (notification.DidClose key) = effect_of_change documents (change.Close key)
effect_while_running documents (notification.Cancel id) = effect.Cancels id
effect_while_running documents notification.Exit = effect.Stops (exit_status Running)
effect_while_running documents notification.Unknown = effect.Nothing

-- one before it, or after it, is dropped unless it is `exit`
abbrev pub effect_while_not : Phase → Notification → Effect
effect_while_not phase notification.Exit = effect.Stops (exit_status phase)
effect_while_not phase (notification.DidOpen item) = effect.Nothing
effect_while_not phase (notification.DidChange params) = effect.Nothing
effect_while_not phase (notification.DidClose key) = effect.Nothing
effect_while_not phase (notification.Cancel id) = effect.Nothing
effect_while_not phase notification.Unknown = effect.Nothing

abbrev pub effect_of_notification : Phase → List SessionDocument → Notification → Effect
effect_of_notification Fresh documents n = effect_while_not Fresh n
effect_of_notification Running documents n = effect_while_running documents n
effect_of_notification Down documents n = effect_while_not Down n
effect_of_notification Stopped documents n = effect.Nothing

-- what is no message is refused whatever the phase
abbrev pub effect_of_message : Phase → List SessionDocument → Incoming → Effect
effect_of_message phase documents (incoming.Request id r) = effect_of_request phase id r
effect_of_message phase documents (incoming.Notification n) = effect_of_notification phase documents n
effect_of_message phase documents (incoming.Invalid id) = effect.Refuses id error.InvalidRequest
effect_of_message phase documents incoming.Ignored = effect.Nothing
effect_of_message phase documents incoming.NotJson = effect.Refuses None error.ParseError

-- the status of the process where more documents are loaded than there may be
abbrev pub too_many_status : ℕ
too_many_status = 3

-- what is loaded of a document that is not open changes it; of one that is open it comes behind that
abbrev pub effect_of_loaded : List SessionDocument → Load → Effect
effect_of_loaded documents load =
    if is_open load.key documents then effect.LoadsBehind load
    else (if is_one_too_many documents load then effect.Stops too_many_status else effect.Changes (change.Load load))

-- what is loaded counts before `initialize` and while the session runs
abbrev pub effect_of_load : Phase → List SessionDocument → Load → Effect
effect_of_load Fresh documents load = effect_of_loaded documents load
effect_of_load Running documents load = effect_of_loaded documents load
effect_of_load Down documents load = effect.Nothing
effect_of_load Stopped documents load = effect.Nothing

abbrev pub end_status : InputEnd → ℕ
end_status Border = 1
end_status Fault = 3

-- what an event comes to while the session goes on
abbrev pub effect_going : Phase → List SessionDocument → Event → Effect
effect_going phase documents (event.Message m) = effect_of_message phase documents m
effect_going phase documents (event.Load load) = effect_of_load phase documents load
effect_going phase documents (event.Done done) = effect.Finishes done
effect_going phase documents (event.End end) = effect.Stops (end_status end)

-- what an event comes to: after a stop nothing counts
abbrev pub effect_of : Phase → List SessionDocument → Event → Effect
effect_of Fresh documents e = effect_going Fresh documents e
effect_of Running documents e = effect_going Running documents e
effect_of Down documents e = effect_going Down documents e
effect_of Stopped documents e = effect.Nothing

-- ---- what becomes of the session

-- the document that a change leaves, if it leaves one
abbrev pub changed_by : Session → Effect → Bool → Option SessionDocument
changed_by s (effect.Changes c) refused = changed s.position_encoding s.documents s.behind c refused
changed_by s (effect.LoadsBehind load) refused = loaded load
changed_by s effect.Nothing refused = None
changed_by s (effect.Begins id capabilities) refused = None
changed_by s (effect.Refuses id why) refused = None
changed_by s (effect.Asks id question) refused = None
changed_by s (effect.Cancels id) refused = None
changed_by s (effect.ShutsDown id) refused = None
changed_by s (effect.Finishes done) refused = None
changed_by s (effect.Stops status) refused = None

abbrev pub begun_by : Session → ClientCapabilities → Session
begun_by s capabilities = record {
  phase = Running;
  position_encoding = encoding_for capabilities;
  document_changes = capabilities.document_changes;
  code_actions = capabilities.code_actions;
  diagnostics = capabilities.publish_diagnostics;
  documents = s.documents;
  behind = s.behind;
}

abbrev pub with_phase : Session → Phase → Session
with_phase s phase = record {
  phase = phase;
  position_encoding = s.position_encoding;
  document_changes = s.document_changes;
  code_actions = s.code_actions;
  diagnostics = s.diagnostics;
  documents = s.documents;
  behind = s.behind;
}

abbrev pub with_documents : Session → (documents behind : List SessionDocument) → Session
with_documents s documents behind = record {
  phase = s.phase;
  position_encoding = s.position_encoding;
  document_changes = s.document_changes;
  code_actions = s.code_actions;
  diagnostics = s.diagnostics;
  documents = documents;
  behind = behind;
}

-- the session after a change that leaves this document, if it leaves one
abbrev pub session_changed : Session → Change → Option SessionDocument → Session
session_changed s c document = with_documents s (with_changed s.documents (key_of c) document) (behind_after s.documents s.behind c)

-- the session after an event of this effect, whose change leaves this document
abbrev pub session_after : Session → Effect → Option SessionDocument → Session
session_after s (effect.Begins id capabilities) document = begun_by s capabilities
session_after s (effect.Changes c) document = session_changed s c document
session_after s (effect.LoadsBehind load) document = with_documents s s.documents (with_changed s.behind load.key document)
session_after s (effect.ShutsDown id) document = with_phase s Down
session_after s (effect.Stops status) document = with_phase s Stopped
session_after s effect.Nothing document = s
session_after s (effect.Refuses id why) document = s
session_after s (effect.Asks id question) document = s
session_after s (effect.Cancels id) document = s
session_after s (effect.Finishes done) document = s

-- ---- what is asked, and how it is denied

-- the request failed (LSP 3.17, RequestFailed)
abbrev pub failed : List ℕ → ResponseError
failed why = error.RequestFailed why

-- a rename wants a client that takes edits with versions, and code actions want one that takes actions with such edits
abbrev pub wants_document_changes : Question → Bool
wants_document_changes (question.Rename params) = true
wants_document_changes (question.Completion params) = false
wants_document_changes (question.Definition params) = false
wants_document_changes (question.Hover params) = false
wants_document_changes (question.PrepareRename params) = false
wants_document_changes (question.References params) = false
wants_document_changes (question.CodeAction params) = false

abbrev pub wants_code_actions : Question → Bool
wants_code_actions (question.CodeAction params) = true
wants_code_actions (question.Completion params) = false
wants_code_actions (question.Definition params) = false
wants_code_actions (question.Hover params) = false
wants_code_actions (question.PrepareRename params) = false
wants_code_actions (question.References params) = false
wants_code_actions (question.Rename params) = false

-- so many questions may be pending
abbrev pub pending_max : ℕ
pending_max = 64

abbrev pub are_too_many : List JobOf → Bool
are_too_many pending = nat_le pending_max (count_by (λ job. is_ask job.task) pending)

-- How a question is denied, if it is, tested in this order: its document is not open, some document is lost, the client does
-- not take what it wants (a rename fails, of code actions there is none), too many are pending.
abbrev pub denied : List ℕ → Denial
denied why = denial.Error (failed why)

abbrev pub denial_of_question : Session → List JobOf → Question → Option Denial
denial_of_question s pending q =
    if not (is_open (place_of q).key s.documents) then Some (denial.Error error.InvalidParams)
    else (if is_any_lost s.documents then Some (denied (codes "document lost"))
    else (if wants_document_changes q && not s.document_changes then Some (denied (codes "no documentChanges"))
    else (if wants_code_actions q && not s.code_actions then Some denial.NoActions
    else (if are_too_many pending then Some (denied (codes "too many pending"))
    else None))))

-- its parameters cannot be read
abbrev pub denial_of_ask : Session → List JobOf → Option Question → Option Denial
denial_of_ask s pending None = Some (denial.Error error.InvalidParams)
denial_of_ask s pending (Some q) = denial_of_question s pending q

-- its id is that of a question that is pending
abbrev pub denial_of_request : Session → List JobOf → Id → Option Question → Option Denial
denial_of_request s pending id asked = if list_any (λ job. is_of id job.task) pending then Some (denial.Error error.InvalidRequest) else denial_of_ask s pending asked

abbrev pub denied_by : Session → List JobOf → Effect → Option Denial
denied_by s pending (effect.Asks id asked) = denial_of_request s pending id asked
denied_by s pending effect.Nothing = None
denied_by s pending (effect.Begins id capabilities) = None
denied_by s pending (effect.Refuses id why) = None
denied_by s pending (effect.Changes c) = None
denied_by s pending (effect.LoadsBehind load) = None
denied_by s pending (effect.Cancels id) = None
denied_by s pending (effect.ShutsDown id) = None
denied_by s pending (effect.Finishes done) = None
denied_by s pending (effect.Stops status) = None

abbrev pub accepted : PositionEncoding → Id → Option Question → Option Denial → Option Task
accepted encoding id None denied = None
accepted encoding id (Some q) None = Some (task.Ask encoding id q)
accepted encoding id (Some q) (Some how) = None

-- the task that an event brings: a question that is not denied, or after a change the check, where the client takes diagnostics
abbrev pub taken : Session → Option Denial → Effect → Option Task
taken s denied (effect.Asks id asked) = accepted s.position_encoding id asked denied
taken s denied (effect.Changes c) = if s.diagnostics then Some (task.Check s.position_encoding) else None
taken s denied effect.Nothing = None
taken s denied (effect.LoadsBehind load) = None
taken s denied (effect.Begins id capabilities) = None
taken s denied (effect.Refuses id why) = None
taken s denied (effect.Cancels id) = None
taken s denied (effect.ShutsDown id) = None
taken s denied (effect.Finishes done) = None
taken s denied (effect.Stops status) = None

-- ---- what decides a job that is pending, and what is written for it

-- a change and a shutdown decide each, a cancel that of its id, and what a worker made of its number decides it, if it is of
-- that task and about the documents as they are now
abbrev pub decides : List Doc → Effect → JobOf → Bool
decides docs (effect.Changes c) job = true
decides docs (effect.ShutsDown id) job = true
decides docs (effect.Cancels id) job = is_of id job.task
decides docs (effect.Finishes done) job = (done.job == job.number) && (same_task done.task job.task && same_docs done.texts docs)
decides docs effect.Nothing job = false
decides docs (effect.LoadsBehind load) job = false
decides docs (effect.Begins id capabilities) job = false
decides docs (effect.Refuses id why) job = false
decides docs (effect.Asks id asked) job = false
decides docs (effect.Stops status) job = false

-- the request of a task fails; a check has none, and nothing is written for it
abbrev pub refused_as : Task → ResponseError → List Out
refused_as (task.Ask encoding id q) why = out.Reply (outgoing.Error (Some id) why) ∷ []
refused_as (task.Check encoding) why = []

-- what is written for a task's answer: nothing for a check that is superseded
abbrev pub answered : Task → Answer → List Out
answered t (answer.Response message) = out.Reply message ∷ []
answered t (answer.Report messages) = map out.Notify messages
answered t answer.NoMemory = refused_as t (failed (codes "12 NoMemory"))
answered t answer.Superseded = []

abbrev pub verdict : Effect → JobOf → List Out
verdict (effect.Changes c) job = refused_as job.task error.ContentModified
verdict (effect.ShutsDown id) job = refused_as job.task (failed (codes "shutdown"))
verdict (effect.Cancels id) job = refused_as job.task error.Cancelled
verdict (effect.Finishes done) job = answered job.task done.answer
verdict effect.Nothing job = []
verdict (effect.LoadsBehind load) job = []
verdict (effect.Begins id capabilities) job = []
verdict (effect.Refuses id why) job = []
verdict (effect.Asks id asked) job = []
verdict (effect.Stops status) job = []

-- ---- what an event itself puts out

-- what this server does for a client (LSP 3.17, ServerCapabilities): what the client knows, renames where it takes edits with
-- versions, and code actions where it takes those with such edits; and its choice of a position encoding, if it has one
abbrev pub server_capabilities : ClientCapabilities → ServerCapabilities
server_capabilities client = record {
  completion_provider = client.completion;
  definition_provider = client.definition;
  hover_provider = client.hover;
  references_provider = client.references;
  rename_provider = client.document_changes;
  prepare_provider = client.document_changes && client.prepare_support;
  code_action_provider = client.code_actions;
  position_encoding = client.position_encoding;
}

-- the reply to a question that is denied
abbrev pub denying : Id → Denial → Outgoing
denying id (denial.Error why) = outgoing.Error (Some id) why
denying id denial.NoActions = outgoing.CodeActions id []

abbrev pub denied_with : Id → Option Denial → List Out
denied_with id None = []
denied_with id (Some how) = out.Reply (denying id how) ∷ []

-- a document that is closed has nothing wrong in it: under the URI that it was opened with, and without a version
abbrev pub nothing_wrong : SessionDocument → Out
nothing_wrong document = out.Notify (outgoing.Diagnostics (record { uri = document.uri; version = None; diagnostics = [] }))

abbrev pub cleared : List SessionDocument → Change → List Out
cleared documents (change.Open item) = []
cleared documents (change.Edit params) = []
cleared documents (change.Load load) = []
cleared documents (change.Close key) = option_to_list (option_map nothing_wrong (document_at key documents))

-- what workers are to see changed; with none, nothing is put out for them
abbrev pub shown : ℕ → DocChange → List Out
shown workers c = if workers == 0 then [] else out.Publish c ∷ []

abbrev pub own_of_change : ℕ → Session → Change → Option SessionDocument → List Out
own_of_change workers s c document = (if s.diagnostics then cleared s.documents c else []) ++ shown workers (published (key_of c) document)

-- the event's own reply, and what is published for workers
abbrev pub own : ℕ → Session → Option Denial → Effect → Option SessionDocument → List Out
own workers s denied (effect.Begins id capabilities) document = out.Reply (outgoing.Initialized id (server_capabilities capabilities)) ∷ []
own workers s denied (effect.Refuses id why) document = out.Reply (outgoing.Error id why) ∷ []
own workers s denied (effect.Asks id asked) document = denied_with id denied
own workers s denied (effect.Changes c) document = own_of_change workers s c document
own workers s denied (effect.ShutsDown id) document = out.Reply (outgoing.ShutDown id) ∷ []
own workers s denied (effect.Stops status) document = out.Stop status ∷ []
own workers s denied effect.Nothing document = []
own workers s denied (effect.LoadsBehind load) document = []
own workers s denied (effect.Cancels id) document = []
own workers s denied (effect.Finishes done) document = []

-- What a session becomes by an edit of a document, by a change, and by an event, and what is put out for it by then, and for so many workers. Of each
-- it may be that a text was refused memory.
abbrev pub changed_in_session : Session → Change → Bool → Option SessionDocument
changed_in_session s c refused = changed s.position_encoding s.documents s.behind c refused

abbrev pub Edits : ℕ → Session → DidChangeParams → Session → List Out → List Out → Type 0
Edits workers s params t old new =
    (refused : Bool) × (t ≡ session_changed s (change.Edit params) (changed_in_session s (change.Edit params) refused))
    × (new ≡ old ++ shown workers (published params.key (changed_in_session s (change.Edit params) refused)))

abbrev pub Changes : ℕ → Session → Change → Session → List Out → List Out → Type 0
Changes workers s c t old new =
    (refused : Bool) × (t ≡ session_changed s c (changed_in_session s c refused)) × (new ≡ old ++ own_of_change workers s c (changed_in_session s c refused))

abbrev pub Replies : ℕ → Session → Option Denial → Effect → Session → List Out → List Out → Type 0
Replies workers s how e t old new = (refused : Bool) × (t ≡ session_after s e (changed_by s e refused)) × (new ≡ old ++ own workers s how e (changed_by s e refused))

-- the answer to a task that it brings, where no worker is to answer
abbrev pub answer_to : Option Task → Answer → List Out
answer_to None a = []
answer_to (Some t) a = answered t a

-- it is an answer to that task about these documents, of which no other check is on its way
abbrev pub FitsTaken : List Doc → Option Task → Answer → Type 0
FitsTaken docs None a = Unit {0}
FitsTaken docs (Some t) a = Answers docs t a × (is_superseded a ≡ false)

-- ---- which jobs are out

-- what a worker made of a job of that number, whatever else it says
abbrev pub finishes : ℕ → Effect → Bool
finishes number (effect.Finishes done) = done.job == number
finishes number effect.Nothing = false
finishes number (effect.Begins id capabilities) = false
finishes number (effect.Refuses id why) = false
finishes number (effect.Asks id asked) = false
finishes number (effect.Changes c) = false
finishes number (effect.LoadsBehind load) = false
finishes number (effect.Cancels id) = false
finishes number (effect.ShutsDown id) = false
finishes number (effect.Stops status) = false

-- so many jobs are out at once
abbrev pub out_max : ℕ
out_max = 64
