-- What is to be taken in: the messages of an input, and the files of a folder.
use Rattle.std.specs.Prelude.{◌≡◌, ℕ, List, [], ◌∷◌, ◌++◌, map, Bool, Option, Some, None, if◌then◌else◌}
use Rattle.gq_rpc.specs.declared.messages.Incoming.{Incoming}
use Rattle.gq_rpc.specs.declared.messages.Incoming.TheVariants as incoming
use Rattle.gq_rpc.specs.declared.messages.Notification.{Notification}
use Rattle.gq_rpc.specs.declared.messages.Notification.TheVariants as notification
use Rattle.gq_rpc.specs.Decoding.{message_of}
use Rattle.gq_events.specs.declared.event.Event.{Event}
use Rattle.gq_events.specs.declared.event.Event.TheVariants as event
use Rattle.gq_events.specs.declared.event.LoadedContent.{LoadedContent}

-- what a run takes, one after another: a message, by its body, or a file of the folder, by its key
pub data Input : Type 0 where
  Body : List ℕ → Input
  File : List ℕ → Input

abbrev pub event_of : List ℕ → Event
event_of body = event.Message (message_of body)

-- what was loaded of a file, under its key
abbrev pub load_of : List ℕ → LoadedContent → Event
load_of key content = event.Load (record { key = key; uri = key; content = content })

-- The events of these, in order: each message, and of each file what it was when it was read. The readings come one after another.
abbrev pub AreEventsOf : {F : Type 0} → (F → List ℕ → LoadedContent → F → Type 0) → F → List Input → List Event → Type 0
AreEventsOf reads files [] [] = Unit {0}
AreEventsOf reads files [] (e ∷ events) = ⊥
AreEventsOf reads files (input ∷ inputs) [] = ⊥
AreEventsOf reads files (Body body ∷ inputs) (e ∷ events) = (e ≡ event_of body) × AreEventsOf reads files inputs events
AreEventsOf {F = F} reads files (File key ∷ inputs) (e ∷ events) =
    (content : LoadedContent) × (e ≡ load_of key content) × (mid : F) × reads files key content mid × AreEventsOf reads mid inputs events

-- the document that a message closes
abbrev pub key_closed : Notification → Option (List ℕ)
key_closed (notification.DidClose key) = Some key
key_closed (notification.Cancel id) = None
key_closed (notification.DidChange params) = None
key_closed (notification.DidOpen item) = None
key_closed notification.Exit = None
key_closed notification.Unknown = None

abbrev pub closed_by : Incoming → Option (List ℕ)
closed_by (incoming.Notification n) = key_closed n
closed_by (incoming.Request id request) = None
closed_by (incoming.Invalid id) = None
closed_by incoming.Ignored = None
closed_by incoming.NotJson = None

-- where a document is closed that the folder has, its file is to be loaded
abbrev pub files_at : (List ℕ → Bool) → Option (List ℕ) → List (List ℕ)
files_at has None = []
files_at has (Some key) = if has key then key ∷ [] else []

abbrev pub files_behind : (List ℕ → Bool) → List ℕ → List (List ℕ)
files_behind has body = files_at has (closed_by (message_of body))

-- messages, in order, and behind one that closes a document of the folder the file of that
abbrev pub inputs_of : (List ℕ → Bool) → List (List ℕ) → List Input
inputs_of has [] = []
inputs_of has (body ∷ bodies) = Body body ∷ (map File (files_behind has body) ++ inputs_of has bodies)
