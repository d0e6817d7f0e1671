-- What driving a desk does: which events are taken, what is written, and what is handed on.
use Rattle.std.specs.Prelude.{◌≡◌, ◌⊎◌, ℕ, ◌<◌, ◌≤◌, ◌^◌, Bool, true, false, List, [], ◌∷◌, ◌++◌, map, length, Option, Some, None, is_some}
use Rattle.std.specs.Iterator.{Yields, YieldsThen}
use Rattle.std.specs.Io.KnownBytes.{Appends}
use Rattle.std.specs.List.{AllByRecursion}
use Rattle.gq_rpc.specs.Devices.{Sent}
use Rattle.gq_events.specs.declared.event.Event.{Event}
use Rattle.gq_events.specs.declared.event.Out.{Out}
use Rattle.gq_events.specs.declared.effect.Change.{Change}
use Rattle.gq_events.specs.declared.effect.Effect.TheVariants as effect
use Rattle.gq_events.specs.Rules.{Turn}
use Rattle.gq_events.specs.History.{effect_at, outputs_at, outputs_behind}
use Rattle.gq_events.specs.Machine.{State}
use Rattle.gq_events.specs.Lifecycle.{is_load}
use Rattle.gq_events.specs.Laws.{Handing, handings, IsRightOutput, tells_modified}
use Rattle.gq_events.specs.Headline.{Headline}
use Rattle.gq_desk.specs.declared.driving.DriveFault.{DriveFault}
use Rattle.gq_desk.specs.declared.driving.DriveFault.TheVariants as drive
use Rattle.gq_desk.specs.Frames.{frames_in, stop_in}
use Rattle.gq_desk.specs.Standing.{AreAnswered, StandsFor}

abbrev pub events_of : List Turn → List Event
events_of turns = map (λ turn. turn.event) turns

-- so many events are taken, at most
abbrev pub events_max : ℕ
events_max = 2 ^ 60

-- ---- one step after another

-- what takes changes and jobs went from one to the next, as it states of each taking
abbrev pub Chain : {H : Type 0} → (H → Handing → H → Type 0) → H → List Handing → H → Type 0
Chain takes h [] h' = h' ≡ h
Chain {H = H} takes h (x ∷ xs) h' = (mid : H) × takes h x mid × Chain takes mid xs h'

-- it took those before one, and refused that one
pub record Refused {H : Type 0} (takes refuses : H → Handing → H → Type 0) (h : H) (xs : List Handing) (h' : H) : Type 0 where
  pub front : List Handing
  pub next : Handing
  pub rest : List Handing
  pub whole : xs ≡ front ++ next ∷ rest
  pub mid : H
  pub took : Chain takes h front mid
  pub refused : refuses mid next h'

-- all frames were written, and all changes and jobs handed on
pub record Delivers {H : Type 0} (takes : H → Handing → H → Type 0) (h : H) (held : Option (List ℕ)) (outs : List Out) (h' : H) (held' : Option (List ℕ)) : Type 0 where
  pub written : Appends held held' (frames_in outs)
  pub handed : Chain takes h (handings outs) h'

-- The outputs of a step were not all delivered. Its frames are written first: where memory was refused for them there is nothing of it, where
-- the sink failed a front of them; and then it is handed on, up to what was refused. Where one document too many is loaded they stop the session,
-- and all were delivered.
abbrev pub Breaks : {H : Type 0} → (takes refuses : H → Handing → H → Type 0) → H → Option (List ℕ) → List Out → H → Option (List ℕ) → DriveFault → Type 0
Breaks takes refuses h held outs h' held' drive.NoMemory = ((h' ≡ h) × (held' ≡ held)) ⊎ (Appends held held' (frames_in outs) × Refused takes refuses h (handings outs) h')
Breaks takes refuses h held outs h' held' drive.Device = (h' ≡ h) × Sent held held' (frames_in outs)
Breaks takes refuses h held outs h' held' drive.Closed = Appends held held' (frames_in outs) × Refused takes refuses h (handings outs) h'
Breaks takes refuses h held outs h' held' drive.TooMany = Delivers takes h held outs h' held' × (is_some (stop_in outs) ≡ true)
Breaks takes refuses h held outs h' held' drive.Failed = ⊥

-- ---- the claims, of turns that are taken behind earlier ones

-- The events are those up to the first stop, which is not at what is loaded, and whose status is told, or all of them where none comes: then the
-- status is 1.
abbrev pub EndsAt : {S : Type 0} → (S → Option Event → S → Type 0) → ℕ → List Turn → S → List Turn → S → ℕ → Type 0
EndsAt steps workers earlier it turns it' status =
    ((front : List Turn) × (last : Turn) × (turns ≡ front ++ last ∷ []) × (stop_in (outputs_behind workers earlier front) ≡ None) × (stop_in (outputs_behind workers earlier turns) ≡ Some status)
    × (is_load last ≡ false) × Yields steps it (events_of turns) it')
    ⊎ ((stop_in (outputs_behind workers earlier turns) ≡ None) × (status ≡ 1) × YieldsThen steps it (events_of turns) None it')

-- each result that is replied is exactly its question's, about the documents as they were when it was asked, and that the content was modified
-- is told at a change
pub record AreExact (workers : ℕ) (turns : List Turn) : Type 0 where
  pub results : (j : ℕ) → j < length turns → AllByRecursion (IsRightOutput turns j) (outputs_at workers turns j)
  pub modified : (j : ℕ) → j < length turns → AllByRecursion (λ o. tells_modified o → (c : Change) × (effect_at turns j ≡ effect.Changes c)) (outputs_at workers turns j)

-- The events were taken up to the first stop or their end, and the desk has come to where they lead. What was written is the frames of what the list
-- of events tells of them, each question that is accepted answered at its deciding event, and nothing else; what was handed on is each change and
-- each job that it tells, once, in its step.
pub record Drives {S H : Type 0} (steps : S → Option Event → S → Type 0) (takes : H → Handing → H → Type 0) (workers : ℕ) (earlier : List Turn) (it : S) (h : H) (held : Option (List ℕ))
    (it' : S) (desk' : Option State) (h' : H) (held' : Option (List ℕ)) (status : ℕ) : Type 0 where
  pub turns : List Turn
  pub few : length turns ≤ events_max
  pub stands : StandsFor workers (earlier ++ turns) desk'
  pub ends : EndsAt steps workers earlier it turns it' status
  pub replies : Appends held held' (frames_in (outputs_behind workers earlier turns))
  pub handed_on : Chain takes h (handings (outputs_behind workers earlier turns)) h'
  pub exact : AreExact workers (earlier ++ turns)
  pub headline : Headline workers (earlier ++ turns)

-- A fault came at the last of the events, and the desk has failed. All that the events before it tell was written and handed on, and of what it puts
-- out itself a front. The fault of a document too many comes at what is loaded.
pub record FailsAt {S H : Type 0} (steps : S → Option Event → S → Type 0) (takes refuses : H → Handing → H → Type 0) (workers : ℕ) (earlier : List Turn) (it : S) (h : H) (held : Option (List ℕ))
    (it' : S) (desk' : Option State) (h' : H) (held' : Option (List ℕ)) (fault : DriveFault) : Type 0 where
  pub before : List Turn
  pub last : Turn
  pub failed : desk' ≡ None
  pub answered : AreAnswered workers (earlier ++ (before ++ last ∷ []))
  pub no_stop : stop_in (outputs_behind workers earlier before) ≡ None
  pub it_then : S
  pub took : Yields steps it (events_of before) it_then
  pub then : steps it_then (Some last.event) it'
  pub h_then : H
  pub held_then : Option (List ℕ)
  pub delivers : Delivers takes h held (outputs_behind workers earlier before) h_then held_then
  pub breaks : Breaks takes refuses h_then held_then (outputs_behind workers (earlier ++ before) (last ∷ [])) h' held' fault
  pub too_many : fault ≡ drive.TooMany → is_load last ≡ true
  pub exact : AreExact workers (earlier ++ (before ++ last ∷ []))
  pub headline : Headline workers (earlier ++ (before ++ last ∷ []))

-- So many events came, without a stop; all that they tell was written and handed on, and the desk has come to where they lead.
pub record TakesTooMany {S H : Type 0} (steps : S → Option Event → S → Type 0) (takes : H → Handing → H → Type 0) (workers : ℕ) (earlier : List Turn) (it : S) (h : H) (held : Option (List ℕ))
    (it' : S) (desk' : Option State) (h' : H) (held' : Option (List ℕ)) (fault : DriveFault) : Type 0 where
  pub turns : List Turn
  pub many : length turns ≡ events_max
  pub stands : StandsFor workers (earlier ++ turns) desk'
  pub no_stop : stop_in (outputs_behind workers earlier turns) ≡ None
  pub took : Yields steps it (events_of turns) it'
  pub delivers : Delivers takes h held (outputs_behind workers earlier turns) h' held'
  pub is_fault : fault ≡ drive.Device
  pub exact : AreExact workers (earlier ++ turns)
  pub headline : Headline workers (earlier ++ turns)

abbrev pub Fails : {S H : Type 0} → (S → Option Event → S → Type 0) → (takes refuses : H → Handing → H → Type 0) → ℕ → List Turn → S → H → Option (List ℕ)
    → S → Option State → H → Option (List ℕ) → DriveFault → Type 0
Fails steps takes refuses workers earlier it h held it' desk' h' held' fault =
    FailsAt steps takes refuses workers earlier it h held it' desk' h' held' fault ⊎ TakesTooMany steps takes workers earlier it h held it' desk' h' held' fault
