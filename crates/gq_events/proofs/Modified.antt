-- That the content was modified is told at a change alone.
use Rattle.std.proofs.Common.{◌≡◌, ℕ, suc, Bool, true, false, cond, not, ◌&&◌, ◌==◌, List, [], ◌∷◌, map, Option, Some, None}
use Rattle.std.specs.Prelude.{codes, option_map, option_to_list}
use Rattle.std.specs.List.{AllByRecursion, list_any}
use mathlib.Core.Logic.{∥∥₁_elim}
use Rattle.gq_project.specs.declared.document.DocChange.{DocChange}
use Rattle.gq_rpc.specs.declared.messages.Id.{Id}
use Rattle.gq_rpc.specs.declared.messages.ServerCapabilities.{ServerCapabilities}
use Rattle.gq_rpc.specs.declared.messages.Question.{Question}
use Rattle.gq_rpc.specs.declared.messages.Request.{Request}
use Rattle.gq_rpc.specs.declared.messages.Request.TheVariants as request
use Rattle.gq_rpc.specs.declared.messages.Notification.{Notification}
use Rattle.gq_rpc.specs.declared.messages.Notification.TheVariants as notification
use Rattle.gq_rpc.specs.declared.messages.Incoming.{Incoming}
use Rattle.gq_rpc.specs.declared.messages.Incoming.TheVariants as incoming
use Rattle.gq_rpc.specs.declared.messages.ResponseError.{ResponseError}
use Rattle.gq_rpc.specs.declared.messages.ResponseError.TheVariants as error
use Rattle.gq_rpc.specs.declared.messages.Outgoing.{Outgoing}
use Rattle.gq_rpc.specs.declared.messages.Outgoing.TheVariants as outgoing
use Rattle.gq_replies.specs.Responses.{IsFailure, Responds}
use Rattle.gq_replies.specs.Laws.{AnswersRespond}
use Rattle.gq_events.specs.declared.documents.SessionDocument.{SessionDocument}
use Rattle.gq_events.specs.declared.event.Task.{Task}
use Rattle.gq_events.specs.declared.event.Task.TheVariants as task
use Rattle.gq_events.specs.Jobs.{JobOf}
use Rattle.gq_events.specs.declared.event.Answer.{Answer}
use Rattle.gq_events.specs.declared.event.Answer.TheVariants as answer
use Rattle.gq_events.specs.declared.event.Load.{Load}
use Rattle.gq_events.specs.declared.event.Event.{Event}
use Rattle.gq_events.specs.declared.event.Event.TheVariants as event
use Rattle.gq_events.specs.declared.event.Out.{Out}
use Rattle.gq_events.specs.declared.event.Out.TheVariants as out
use Rattle.gq_events.specs.declared.refusals.Denial.{Denial}
use Rattle.gq_events.specs.declared.refusals.Denial.TheVariants as denial
use Rattle.gq_events.specs.declared.effect.Phase.{Phase}
use Rattle.gq_events.specs.declared.effect.Phase.TheVariants.{Fresh, Running, Down, Stopped}
use Rattle.gq_events.specs.declared.effect.Change.{Change}
use Rattle.gq_events.specs.declared.effect.Change.TheVariants as change
use Rattle.gq_events.specs.declared.effect.Effect.{Effect}
use Rattle.gq_events.specs.declared.effect.Effect.TheVariants as effect
use Rattle.gq_events.specs.Documents.{document_at, is_open, is_any_lost, is_change, is_one_too_many, key_of, published}
use Rattle.gq_events.specs.Tasks.{is_of, place_of}
use Rattle.gq_events.specs.Rules.{Turn, Session, failed, refused_as, answered, denied, denied_with, nothing_wrong, cleared, shown, own, wants_document_changes, wants_code_actions, are_too_many, denial_of_question, denial_of_ask, denied_by, effect_of_request, effect_while_running, effect_while_not, effect_of_notification, effect_of_message, effect_of_load, too_many_status, effect_going, effect_of}
use Rattle.gq_events.specs.History.{session_at, effect_at, docs_at, turn_at, asked_before, pending_of}
use Rattle.gq_events.specs.Laws.{tells_modified, ModifiedAtChange}
use Rattle.gq_events.proofs.Lists.{both}
use Rattle.gq_events.proofs.Sources.{IsGiven, of_outputs}

-- an output may tell so, where the event is a change
abbrev May : Effect → Out → Type 0
May e o = tells_modified o → (c : Change) × (e ≡ effect.Changes c)

abbrev All_may : Effect → List Out → Type 0
All_may e outs = AllByRecursion (May e) outs

-- other errors never tell so
abbrev IsOther : ResponseError → Type 0
IsOther why = why ≡ error.ContentModified → ⊥

abbrev IsOtherIfAny : Option Denial → Type 0
IsOtherIfAny None = Unit {0}
IsOtherIfAny (Some (denial.Error why)) = IsOther why
IsOtherIfAny (Some denial.NoActions) = Unit {0}

error_is : (to id : Option Id) (why : ResponseError) → outgoing.Error to why ≡ outgoing.Error id error.ContentModified → why ≡ error.ContentModified
error_is to id why h = cc

other_error : (e : Effect) (to : Option Id) (why : ResponseError) → IsOther why → May e (out.Reply (outgoing.Error to why))
other_error e to why h (id, is) = absurd (h (error_is to id why is))

refused_other : (e : Effect) (t : Task) (why : ResponseError) → IsOther why → All_may e (refused_as t why)
refused_other e (task.Ask encoding id q) why h = (other_error e (Some id) why h, tt)
refused_other e (task.Check encoding) why h = tt

refused_change : (e : Effect) (c : Change) → e ≡ effect.Changes c → (t : Task) → All_may e (refused_as t error.ContentModified)
refused_change e c is (task.Ask encoding id q) = ((λ h. (c, is)), tt)
refused_change e c is (task.Check encoding) = tt

all_notify : (e : Effect) (messages : List Outgoing) → All_may e (map out.Notify messages)
all_notify e [] = tt
all_notify e (m ∷ messages) = ((λ h. absurd h), all_notify e messages)

-- answers
failure_other : (why : ResponseError) → IsFailure why → IsOther why
failure_other error.ParseError h = absurd h
failure_other error.InvalidRequest h = absurd h
failure_other error.MethodNotFound h = absurd h
failure_other error.InvalidParams h = absurd h
failure_other error.NotInitialized h = absurd h
failure_other error.Cancelled h = absurd h
failure_other error.ContentModified h = absurd h
failure_other (error.RequestFailed why) h = λ k. cc

response_other : (id : Id) (message : Outgoing) → Responds id message → (to : Option Id) → message ≡ outgoing.Error to error.ContentModified → ⊥
response_other id (outgoing.Initialized of capabilities) h to is = h
response_other id (outgoing.ShutDown of) h to is = h
response_other id (outgoing.Completions of items) h to is = cc
response_other id (outgoing.Hover of hover) h to is = cc
response_other id (outgoing.Locations of locations) h to is = cc
response_other id (outgoing.Prepared of prepared) h to is = cc
response_other id (outgoing.Renamed of edit) h to is = cc
response_other id (outgoing.CodeActions of actions) h to is = cc
response_other id (outgoing.Error of why) h to is = failure_other why h.1 (error_is of to why is)
response_other id (outgoing.Diagnostics params) h to is = h

no_two : (x y : ⊥) → x ≡ y
no_two x y = absurd x

module _ (respond : AnswersRespond) where
  response_may : (e : Effect) (events : List Turn) (j : ℕ) (t : Task) (message : Outgoing) → IsGiven events j t (answer.Response message) → May e (out.Reply message)
  response_may e events j (task.Ask encoding id q) message given (to, is) =
      absurd (∥∥₁_elim given.fits no_two (λ h. response_other id message (respond encoding (docs_at events (suc given.place)) id q message h) to is))
  response_may e events j (task.Check encoding) message given told = absurd (∥∥₁_elim given.fits no_two (λ h. h))

  answer_may : (e : Effect) (events : List Turn) (j : ℕ) (t : Task) (a : Answer) → IsGiven events j t a → All_may e (answered t a)
  answer_may e events j t (answer.Response message) given = (response_may e events j t message given, tt)
  answer_may e events j t (answer.Report messages) given = all_notify e messages
  answer_may e events j t answer.NoMemory given = refused_other e t _ (λ h. cc)
  answer_may e events j t answer.Superseded given = tt

-- how an ask is denied
cond_other : (b : Bool) (x y : Option Denial) → IsOtherIfAny x → IsOtherIfAny y → IsOtherIfAny (cond b x y)
cond_other true x y h k = h
cond_other false x y h k = k

failed_other : (why : List ℕ) → IsOther (failed why)
failed_other why h = cc

question_other : (s : Session) (pending : List JobOf) (q : Question) → IsOtherIfAny (denial_of_question s pending q)
question_other s pending q =
    cond_other (not (is_open (place_of q).key s.documents)) (Some (denial.Error error.InvalidParams)) _ (λ h. cc)
    (cond_other (is_any_lost s.documents) (Some (denied (codes "document lost"))) _ (failed_other _)
    (cond_other (wants_document_changes q && not s.document_changes) (Some (denied (codes "no documentChanges"))) _ (failed_other _)
    (cond_other (wants_code_actions q && not s.code_actions) (Some denial.NoActions) _ tt
    (cond_other (are_too_many pending) (Some (denied (codes "too many pending"))) None (failed_other _) tt))))

ask_other : (s : Session) (pending : List JobOf) (asked : Option Question) → IsOtherIfAny (denial_of_ask s pending asked)
ask_other s pending None = λ h. cc
ask_other s pending (Some q) = question_other s pending q

denial_other : (s : Session) (pending : List JobOf) (e : Effect) → IsOtherIfAny (denied_by s pending e)
denial_other s pending (effect.Asks id asked) = cond_other (list_any (λ job. is_of id job.task) pending) (Some (denial.Error error.InvalidRequest)) _ (λ h. cc) (ask_other s pending asked)
denial_other s pending effect.Nothing = tt
denial_other s pending (effect.LoadsBehind load) = tt
denial_other s pending (effect.Begins id capabilities) = tt
denial_other s pending (effect.Refuses id why) = tt
denial_other s pending (effect.Changes c) = tt
denial_other s pending (effect.Cancels id) = tt
denial_other s pending (effect.ShutsDown id) = tt
denial_other s pending (effect.Finishes done) = tt
denial_other s pending (effect.Stops status) = tt

-- why an event is refused whatever is pending
abbrev IsFair : Effect → Type 0
IsFair (effect.Refuses id why) = IsOther why
IsFair effect.Nothing = Unit {0}
IsFair (effect.LoadsBehind load) = Unit {0}
IsFair (effect.Begins id capabilities) = Unit {0}
IsFair (effect.Asks id asked) = Unit {0}
IsFair (effect.Changes c) = Unit {0}
IsFair (effect.Cancels id) = Unit {0}
IsFair (effect.ShutsDown id) = Unit {0}
IsFair (effect.Finishes done) = Unit {0}
IsFair (effect.Stops status) = Unit {0}

request_fair : (phase : Phase) (id : Id) (r : Request) → IsFair (effect_of_request phase id r)
request_fair Fresh id (request.Initialize capabilities) = tt
request_fair Fresh id request.Shutdown = λ h. cc
request_fair Fresh id (request.Ask q) = λ h. cc
request_fair Fresh id request.InvalidParams = λ h. cc
request_fair Fresh id request.Unknown = λ h. cc
request_fair Running id (request.Initialize capabilities) = λ h. cc
request_fair Running id request.Shutdown = tt
request_fair Running id (request.Ask q) = tt
request_fair Running id request.InvalidParams = tt
request_fair Running id request.Unknown = λ h. cc
request_fair Down id r = λ h. cc
request_fair Stopped id r = tt

change_fair : (b : Bool) (c : Change) → IsFair (cond b (effect.Changes c) effect.Nothing)
change_fair true c = tt
change_fair false c = tt

running_fair : (documents : List SessionDocument) (n : Notification) → IsFair (effect_while_running documents n)
running_fair documents (notification.DidOpen item) = change_fair (is_change documents (change.Open item)) (change.Open item)
running_fair documents (notification.DidChange params) = change_fair (is_change documents (change.Edit params)) (change.Edit params)
running_fair documents (notification.DidClose key) = change_fair (is_change documents (change.Close key)) (change.Close key)
running_fair documents (notification.Cancel id) = tt
running_fair documents notification.Exit = tt
running_fair documents notification.Unknown = tt

not_running_fair : (phase : Phase) (n : Notification) → IsFair (effect_while_not phase n)
not_running_fair phase (notification.DidOpen item) = tt
not_running_fair phase (notification.DidChange params) = tt
not_running_fair phase (notification.DidClose key) = tt
not_running_fair phase (notification.Cancel id) = tt
not_running_fair phase notification.Exit = tt
not_running_fair phase notification.Unknown = tt

notification_fair : (phase : Phase) (documents : List SessionDocument) (n : Notification) → IsFair (effect_of_notification phase documents n)
notification_fair Fresh documents n = not_running_fair Fresh n
notification_fair Running documents n = running_fair documents n
notification_fair Down documents n = not_running_fair Down n
notification_fair Stopped documents n = tt

message_fair : (phase : Phase) (documents : List SessionDocument) (m : Incoming) → IsFair (effect_of_message phase documents m)
message_fair phase documents (incoming.Request id r) = request_fair phase id r
message_fair phase documents (incoming.Notification n) = notification_fair phase documents n
message_fair phase documents (incoming.Invalid id) = λ h. cc
message_fair phase documents incoming.Ignored = tt
message_fair phase documents incoming.NotJson = λ h. cc

loaded_fair : (there many : Bool) (load : Load) → IsFair (cond there (effect.LoadsBehind load) (cond many (effect.Stops too_many_status) (effect.Changes (change.Load load))))
loaded_fair true many load = tt
loaded_fair false true load = tt
loaded_fair false false load = tt

load_fair : (phase : Phase) (documents : List SessionDocument) (load : Load) → IsFair (effect_of_load phase documents load)
load_fair Fresh documents load = loaded_fair (is_open load.key documents) (is_one_too_many documents load) load
load_fair Running documents load = loaded_fair (is_open load.key documents) (is_one_too_many documents load) load
load_fair Down documents load = tt
load_fair Stopped documents load = tt

going_fair : (phase : Phase) (documents : List SessionDocument) (e : Event) → IsFair (effect_going phase documents e)
going_fair phase documents (event.Message m) = message_fair phase documents m
going_fair phase documents (event.Load load) = load_fair phase documents load
going_fair phase documents (event.Done done) = tt
going_fair phase documents (event.End end) = tt

effect_fair : (phase : Phase) (documents : List SessionDocument) (e : Event) → IsFair (effect_of phase documents e)
effect_fair Fresh documents e = going_fair Fresh documents e
effect_fair Running documents e = going_fair Running documents e
effect_fair Down documents e = going_fair Down documents e
effect_fair Stopped documents e = tt

not_actions : (id : Id) (to : Option Id) → outgoing.CodeActions id [] ≡ outgoing.Error to error.ContentModified → ⊥
not_actions id to is = cc

denied_all : (e : Effect) (id : Id) (denied : Option Denial) → IsOtherIfAny denied → All_may e (denied_with id denied)
denied_all e id None h = tt
denied_all e id (Some (denial.Error why)) h = (other_error e (Some id) why h, tt)
denied_all e id (Some denial.NoActions) h = ((λ g. absurd (not_actions id g.0 g.1)), tt)

closed_all : (e : Effect) (document : Option SessionDocument) → All_may e (option_to_list (option_map nothing_wrong document))
closed_all e None = tt
closed_all e (Some document) = ((λ h. absurd h), tt)

cleared_all : (e : Effect) (b : Bool) (documents : List SessionDocument) (c : Change) → All_may e (cond b (cleared documents c) [])
cleared_all e true documents (change.Open item) = tt
cleared_all e true documents (change.Edit params) = tt
cleared_all e true documents (change.Load load) = tt
cleared_all e true documents (change.Close key) = closed_all e (document_at key documents)
cleared_all e false documents c = tt

not_begun : (id : Id) (capabilities : ServerCapabilities) (to : Option Id) → outgoing.Initialized id capabilities ≡ outgoing.Error to error.ContentModified → ⊥
not_begun id capabilities to is = cc

not_down : (id : Id) (to : Option Id) → outgoing.ShutDown id ≡ outgoing.Error to error.ContentModified → ⊥
not_down id to is = cc

shown_all : (e : Effect) (none : Bool) (c : DocChange) → All_may e (cond none [] (out.Publish c ∷ []))
shown_all e true c = tt
shown_all e false c = ((λ g. absurd g), tt)

own_all : (workers : ℕ) (s : Session) (denied : Option Denial) (e : Effect) (document : Option SessionDocument) → IsOtherIfAny denied → IsFair e → All_may e (own workers s denied e document)
own_all workers s denied (effect.Begins id capabilities) document h k = ((λ g. absurd (not_begun id _ g.0 g.1)), tt)
own_all workers s denied (effect.Refuses id why) document h k = (other_error _ id why k, tt)
own_all workers s denied (effect.Asks id asked) document h k = denied_all _ id denied h
own_all workers s denied (effect.Changes c) document h k =
    both _ (cond s.diagnostics (cleared s.documents c) []) (shown workers (published (key_of c) document)) (cleared_all _ s.diagnostics s.documents c) (shown_all _ (workers == 0) (published (key_of c) document))
own_all workers s denied (effect.ShutsDown id) document h k = ((λ g. absurd (not_down id g.0 g.1)), tt)
own_all workers s denied (effect.Stops status) document h k = ((λ g. absurd g), tt)
own_all workers s denied effect.Nothing document h k = tt
own_all workers s denied (effect.LoadsBehind load) document h k = tt
own_all workers s denied (effect.Cancels id) document h k = tt
own_all workers s denied (effect.Finishes done) document h k = tt

pub modified_at_change : AnswersRespond → ModifiedAtChange
modified_at_change respond workers events j fits =
    let e = effect_at events j in
    of_outputs workers events j (May e)
    (own_all workers (session_at events j) _ e _ (denial_other (session_at events j) (pending_of events j (asked_before workers events j)) e)
    (effect_fair (session_at events j).phase (session_at events j).documents (turn_at events j).event))
    (λ c is t. refused_change e c is t) (λ t. refused_other e t _ (failed_other _)) (λ t. refused_other e t _ (λ h. cc)) (answer_may respond e events j) (λ job. λ h. absurd h) fits
