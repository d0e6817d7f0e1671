-- What a session has come to, told by looking for its first `initialize` and `shutdown` among the events that came (LSP 3.17, "Server lifecycle").
use Rattle.std.specs.Prelude.{◌≡◌, ◌⊎◌, ◌≤◌, ℕ, Bool, true, false, List, [], ◌∷◌, ◌++◌, take, filter, length, fold, find, Option, Some, None, is_some, option_and_then, if◌then◌else◌}
use Rattle.std.specs.List.{list_any, before_first, after_first}
use Rattle.std.specs.Option.{option_map_or}
use Rattle.gq_text.specs.declared.place.PositionEncoding.{PositionEncoding}
use Rattle.gq_rpc.specs.declared.messages.ClientCapabilities.{ClientCapabilities}
use Rattle.gq_rpc.specs.declared.messages.Request.{Request}
use Rattle.gq_rpc.specs.declared.messages.Request.TheVariants as request
use Rattle.gq_rpc.specs.declared.messages.Notification.{Notification}
use Rattle.gq_rpc.specs.declared.messages.Notification.TheVariants as notification
use Rattle.gq_rpc.specs.declared.messages.Incoming.TheVariants as incoming
use Rattle.gq_events.specs.declared.documents.SessionDocument.{SessionDocument}
use Rattle.gq_events.specs.declared.event.Event.{Event}
use Rattle.gq_events.specs.declared.event.Event.TheVariants as event
use Rattle.gq_events.specs.declared.effect.Phase.{Phase}
use Rattle.gq_events.specs.declared.effect.Phase.TheVariants.{Fresh, Running, Down, Stopped}
use Rattle.gq_events.specs.declared.effect.Change.{Change}
use Rattle.gq_events.specs.declared.effect.Change.TheVariants as change
use Rattle.gq_events.specs.Positions.{default_encoding, encoding_for}
use Rattle.gq_events.specs.Documents.{is_change, is_one_too_many, key_of, changed, loaded, with_changed, behind_after}
use Rattle.gq_events.specs.Rules.{Turn, Session, begun}
use Rattle.gq_events.specs.History.{session_step, session_at}

-- the request, the notification that an event is
abbrev pub request_in : Event → Option Request
request_in (event.Message (incoming.Request id r)) = Some r
request_in (event.Message (incoming.Notification n)) = None
request_in (event.Message (incoming.Invalid id)) = None
request_in (event.Message incoming.Ignored) = None
request_in (event.Message incoming.NotJson) = None
request_in (event.Load load) = None
request_in (event.Done done) = None
request_in (event.End end) = None

abbrev pub notification_in : Event → Option Notification
notification_in (event.Message (incoming.Notification n)) = Some n
notification_in (event.Message (incoming.Request id r)) = None
notification_in (event.Message (incoming.Invalid id)) = None
notification_in (event.Message incoming.Ignored) = None
notification_in (event.Message incoming.NotJson) = None
notification_in (event.Load load) = None
notification_in (event.Done done) = None
notification_in (event.End end) = None

-- what the client states with `initialize`
abbrev pub stated_by : Request → Option ClientCapabilities
stated_by (request.Initialize capabilities) = Some capabilities
stated_by request.Shutdown = None
stated_by (request.Ask question) = None
stated_by request.InvalidParams = None
stated_by request.Unknown = None

abbrev pub stated_in : Turn → Option ClientCapabilities
stated_in turn = option_and_then stated_by (request_in turn.event)

abbrev pub is_initialize : Turn → Bool
is_initialize turn = is_some (stated_in turn)

abbrev pub shuts_down : Request → Bool
shuts_down (request.Initialize capabilities) = false
shuts_down request.Shutdown = true
shuts_down (request.Ask question) = false
shuts_down request.InvalidParams = false
shuts_down request.Unknown = false

abbrev pub is_shutdown : Turn → Bool
is_shutdown turn = option_map_or shuts_down (request_in turn.event) false

-- the change that a notification tells
abbrev pub change_by : Notification → Option Change
change_by (notification.DidOpen item) = Some (change.Open item)
change_by (notification.DidChange params) = Some (change.Edit params)
change_by (notification.DidClose key) = Some (change.Close key)
change_by (notification.Cancel id) = None
change_by notification.Exit = None
change_by notification.Unknown = None

-- what is loaded
abbrev pub load_in : Event → Option Change
load_in (event.Load load) = Some (change.Load load)
load_in (event.Message m) = None
load_in (event.Done done) = None
load_in (event.End end) = None

abbrev pub is_load : Turn → Bool
is_load turn = is_some (load_in turn.event)

abbrev pub change_in : Turn → Option Change
change_in turn = if is_load turn then load_in turn.event else option_and_then change_by (notification_in turn.event)

-- `exit`, or the end of the input
abbrev pub is_end : Event → Bool
is_end (event.Message m) = false
is_end (event.Load load) = false
is_end (event.Done done) = false
is_end (event.End end) = true

abbrev pub exits : Notification → Bool
exits notification.Exit = true
exits (notification.DidOpen item) = false
exits (notification.DidChange params) = false
exits (notification.DidClose key) = false
exits (notification.Cancel id) = false
exits notification.Unknown = false

abbrev pub is_stop : Turn → Bool
is_stop turn = if is_end turn.event then true else option_map_or exits (notification_in turn.event) false

-- what came after the first `initialize`
abbrev pub in_session : List Turn → List Turn
in_session past = after_first is_initialize past

-- down where a `shutdown` came in the session, running where it has begun
abbrev pub phase_of : List Turn → Phase
phase_of past = if list_any is_shutdown (in_session past) then Down else (if list_any is_initialize past then Running else Fresh)

-- what the client stated at first
abbrev pub stated : List Turn → Option ClientCapabilities
stated past = option_and_then stated_in (find is_initialize past)

abbrev pub is_stated : (ClientCapabilities → Bool) → List Turn → Bool
is_stated capability past = option_map_or capability (stated past) false

-- so what the characters of positions are counted in
abbrev pub encoding_of : List Turn → PositionEncoding
encoding_of past = option_map_or encoding_for (stated past) default_encoding

-- the documents, and those that were loaded and are behind open ones
pub record Held : Type 0 where
  pub documents : List SessionDocument
  pub behind : List SessionDocument

abbrev pub nothing_held : Held
nothing_held = record { documents = []; behind = [] }

-- what is no change of the documents is dropped, but for what is loaded behind an open one
abbrev pub with_none : Held → Change → Held
with_none held (change.Load load) = record { documents = held.documents; behind = with_changed held.behind load.key (loaded load) }
with_none held (change.Open item) = held
with_none held (change.Edit params) = held
with_none held (change.Close key) = held

-- the documents after what an event tells of them
abbrev pub with_change : PositionEncoding → Held → Bool → Option Change → Held
with_change encoding held refused None = held
with_change encoding held refused (Some c) =
    if is_change held.documents c
    then record { documents = with_changed held.documents (key_of c) (changed encoding held.documents held.behind c refused); behind = behind_after held.documents held.behind c }
    else with_none held c

abbrev pub held_after : PositionEncoding → Held → Turn → Held
held_after encoding held turn = with_change encoding held turn.text_refused (change_in turn)

-- what tells of documents: what is loaded before the session, and all that comes in it before its first `shutdown`
abbrev pub tells_of_documents : List Turn → List Turn
tells_of_documents past = filter is_load (before_first is_initialize past) ++ before_first is_shutdown (in_session past)

abbrev pub held_of : List Turn → Held
held_of past = fold (held_after (encoding_of past)) nothing_held (tells_of_documents past)

abbrev pub told : List Turn → Session
told past = record {
  phase = phase_of past;
  position_encoding = encoding_of past;
  document_changes = is_stated (λ c. c.document_changes) past;
  code_actions = is_stated (λ c. c.code_actions) past;
  diagnostics = is_stated (λ c. c.publish_diagnostics) past;
  documents = (held_of past).documents;
  behind = (held_of past).behind;
}

-- event by event, a session comes to what is told of all that came, unless it has stopped
abbrev pub SessionsAreTold : Type 0
SessionsAreTold = (past : List Turn) → ((fold session_step begun past).phase ≡ Stopped → ⊥) → fold session_step begun past ≡ told past

-- it has stopped where `exit` or the end of the input came
abbrev pub StopsAreTold : Type 0
StopsAreTold = (past : List Turn) → list_any is_stop past ≡ true → (fold session_step begun past).phase ≡ Stopped

-- what is loaded is a document too many, behind what came before
abbrev pub IsOneTooMany : List Turn → Event → Type 0
IsOneTooMany before (event.Load load) = is_one_too_many (held_of before).documents load ≡ true
IsOneTooMany before (event.Message m) = ⊥
IsOneTooMany before (event.Done done) = ⊥
IsOneTooMany before (event.End end) = ⊥

-- `exit`, the end of the input or a document too many came
pub record HasStopped (past : List Turn) : Type 0 where
  pub before : List Turn
  pub turn : Turn
  pub after : List Turn
  pub whole : past ≡ before ++ turn ∷ after
  pub stops : (is_stop turn ≡ true) ⊎ IsOneTooMany before turn.event

-- and it has stopped only there
abbrev pub StopsHaveCauses : Type 0
StopsHaveCauses = (past : List Turn) → (fold session_step begun past).phase ≡ Stopped → HasStopped past

-- the session before the event at place j is that after the first j events
abbrev pub SessionsAreFolds : Type 0
SessionsAreFolds = (events : List Turn) (j : ℕ) → j ≤ length events → session_at events j ≡ fold session_step begun (take j events)
