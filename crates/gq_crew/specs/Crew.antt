-- A run with workers: what its reader posts, what its desk takes, and how it ends.
use Rattle.std.specs.Prelude.{◌≡◌, ◌⊎◌, ℕ, ◌≤◌, Bool, true, false, List, [], ◌∷◌, ◌++◌, map, length, Option, Some, None}
use Rattle.std.specs.Io.KnownBytes.{Appends, Consumes}
use Rattle.std.specs.Option.{option_map_or}
use mathlib.Core.List.{IsPrefix}
use Rattle.gq_project.specs.declared.document.DocChange.{DocChange}
use Rattle.gq_rpc.specs.Devices.{Sent}
use Rattle.gq_rpc.specs.Frames.{Cuts}
use Rattle.gq_events.specs.declared.event.Event.{Event}
use Rattle.gq_events.specs.declared.event.Event.TheVariants as event
use Rattle.gq_events.specs.declared.event.InputEnd.TheVariants.{Border, Fault}
use Rattle.gq_events.specs.declared.event.LoadedContent.{LoadedContent}
use Rattle.gq_events.specs.Jobs.{DoneOf}
use Rattle.gq_events.specs.Tasks.{is_superseded}
use Rattle.gq_events.specs.Rules.{Turn}
use Rattle.gq_events.specs.History.{outputs}
use Rattle.gq_events.specs.Lifecycle.{is_load, is_stop, exits, notification_in}
use Rattle.gq_events.specs.Headline.{Headline}
use Rattle.gq_board.specs.Published.{docs_after}
use Rattle.gq_workers.specs.declared.order.OrderOf.{OrderOf}
use Rattle.gq_workers.specs.Orders.{is_behind}
use Rattle.gq_desk.specs.Frames.{frames_in, stop_in}
use Rattle.gq_desk.specs.Driving.{AreExact, events_of, events_max}
use Rattle.gq_reader.specs.declared.fault.RunFault.{RunFault}
use Rattle.gq_reader.specs.declared.fault.RunFault.TheVariants.{Frame, Device, NoMemory, TooDeep, TooMany, Closed, NoPlace, NoThread}
use Rattle.gq_reader.specs.Inputs.{Input, File, AreEventsOf, inputs_of}
use Rattle.gq_reader.specs.Reading.{SourceAfter, FilesAfter, TellsEnd, IsFrameFault}
use Rattle.gq_crew.specs.Runs.{SinkAfter, FindsNoList}
use Rattle.gq_crew.specs.declared.one_thread.Ended.{Ended}

-- ---- what the desk takes

-- What a worker made came out of what it sent: under the number of its order, and about the documents after a list of changes that begins
-- with those that had been published when the job was put. That another check comes it says where it is of a check and that list is longer, and there alone.
pub record IsSent (done : DoneOf) : Type 0 where
  pub order : OrderOf
  pub seen : List DocChange
  pub number : done.job ≡ order.number
  pub later : ∥ IsPrefix order.told seen ∥₁
  pub texts : done.texts ≡ docs_after [] seen
  pub behind : is_superseded done.answer ≡ is_behind done.task order.told seen

-- of the events these were read, in order; each other one is what a worker sent
abbrev pub AreTaken : List Event → List Event → Type 0
AreTaken [] read = read ≡ []
AreTaken (e ∷ events) read = ((behind : List Event) × (read ≡ e ∷ behind) × AreTaken events behind) ⊎ ((done : DoneOf) × (e ≡ event.Done done) × IsSent done × AreTaken events read)

-- ---- what the reader posts

-- why nothing more was read, of the rest behind the frames that were
abbrev pub IsReadFault : RunFault → List Input → List ℕ → SourceAfter → FilesAfter → List Event → Type 0
IsReadFault (Frame why) left rest source files events = (left ≡ []) × IsFrameFault why rest source
IsReadFault Device left rest source files events = (source.failed ≡ true) ⊎ ((files.failed ≡ true) ⊎ (length events ≡ events_max))
IsReadFault NoMemory left rest source files events = Unit {0}
IsReadFault TooDeep left rest source files events = ⊥
IsReadFault TooMany left rest source files events = ⊥
IsReadFault Closed left rest source files events = ⊥
IsReadFault NoPlace left rest source files events = ⊥
IsReadFault NoThread left rest source files events = ⊥

-- all bytes were read, up to the end that the source told, and nothing stands in them behind the last message
pub record IsAllRead (left : List Input) (rest : List ℕ) (source : SourceAfter) : Type 0 where
  pub none_left : left ≡ []
  pub no_rest : rest ≡ []
  pub tells : TellsEnd source

-- What is posted behind the events that were read: nothing, where `exit` came or nobody took more; the end of the input, where all of it was
-- read up to the end that the source told; or that it ended at a fault.
abbrev pub EndsReading : List Event → Option RunFault → List Input → List ℕ → SourceAfter → FilesAfter → List Event → Type 0
EndsReading ending None left rest source files events =
    (ending ≡ []) ⊎ ((ending ≡ event.End Border ∷ []) × IsAllRead left rest source)
EndsReading ending (Some why) left rest source files events = (ending ≡ event.End Fault ∷ []) × IsReadFault why left rest source files events

-- What was read: first the files of these keys, then the messages of the bodies that stand in the bytes read, in order, and behind one that closes
-- a document of the folder that file again; all or the first of these. It is posted, and then how the reading ended; all or a front of that.
pub record Posts {F : Type 0} (reads : F → List ℕ → LoadedContent → F → Type 0) (has : List ℕ → Bool) (folder : F) (keys : List (List ℕ)) (files : FilesAfter)
    (left_before : Option (List ℕ)) (source : SourceAfter) (told : Option RunFault) (posted : List Event) : Type 0 where
  pub read : List ℕ
  pub bodies : List (List ℕ)
  pub rest : List ℕ
  pub inputs : List Input
  pub left : List Input
  pub events : List Event
  pub ending : List Event
  pub took : Consumes left_before source.left read
  pub cuts : Cuts read bodies rest
  pub all : map File keys ++ inputs_of has bodies ≡ inputs ++ left
  pub are_events : AreEventsOf reads folder inputs events
  pub ends : EndsReading ending told left rest source files events
  pub posts : IsPrefix posted (events ++ ending)

-- ---- how it ends

-- the last turn stopped the session, with this status, and what all turns put out was written
pub record StopsCrew (workers : ℕ) (turns : List Turn) (held held' : Option (List ℕ)) (status : ℕ) : Type 0 where
  pub before : List Turn
  pub last : Turn
  pub whole : turns ≡ before ++ last ∷ []
  pub is_stop : is_stop last ≡ true
  pub goes : stop_in (outputs workers before) ≡ None
  pub stops : stop_in (outputs workers turns) ≡ Some status
  pub written : Appends held held' (frames_in (outputs workers turns))

-- the last turn was that of a file
pub record EndsAtLoad (turns : List Turn) : Type 0 where
  pub before : List Turn
  pub last : Turn
  pub whole : turns ≡ before ++ last ∷ []
  pub is_load : is_load last ≡ true

-- why a desk ended early; that a worker found no place or no thread is told before anything was taken, that memory was refused and that nobody is
-- left as it was found
abbrev pub IsDeskFault : RunFault → List Turn → SinkAfter → Type 0
IsDeskFault (Frame why) turns sink = ⊥
IsDeskFault Device turns sink = (sink.failed ≡ true) ⊎ (events_max ≤ length turns)
IsDeskFault TooMany turns sink = EndsAtLoad turns
IsDeskFault TooDeep turns sink = ⊥
IsDeskFault NoMemory turns sink = Unit {0}
IsDeskFault Closed turns sink = Unit {0}
IsDeskFault NoPlace turns sink = turns ≡ []
IsDeskFault NoThread turns sink = turns ≡ []

-- how a desk ended: at a stop, or at a fault, where it wrote a front of the frames
abbrev pub EndsDesk : ℕ → List Turn → Option (List ℕ) → SinkAfter → ℕ → Option RunFault → Type 0
EndsDesk workers turns held sink status None = StopsCrew workers turns held sink.held status
EndsDesk workers turns held sink status (Some why) = (status ≡ 3) × Sent held sink.held (frames_in (outputs workers turns)) × IsDeskFault why turns sink

-- What a desk came to, whose events are of those that were read these. Each result that it replied is exactly its question's, and each edit is
-- safe. What was written is the frames of what the list of events tells.
pub record DeskRuns (workers : ℕ) (taken : List Event) (held : Option (List ℕ)) (sink : SinkAfter) (ended : Ended) : Type 0 where
  pub turns : List Turn
  pub are_taken : AreTaken (events_of turns) taken
  pub exact : AreExact workers turns
  pub headline : Headline workers turns
  pub ends : EndsDesk workers turns held sink ended.status ended.fault

abbrev pub is_exit : Event → Bool
is_exit e = option_map_or exits (notification_in e) false

-- it stopped at `exit`, or at the end of the input
pub record EndsAtStop (workers : ℕ) (turns : List Turn) (left : List Input) (rest : List ℕ) (source : SourceAfter) (held held' : Option (List ℕ)) (status : ℕ) : Type 0 where
  pub stop : StopsCrew workers turns held held' status
  pub cause : (is_exit stop.last.event ≡ true) ⊎ ((stop.last.event ≡ event.End Border) × IsAllRead left rest source)

abbrev pub EndsRun : ℕ → List Turn → List Event → List Input → List ℕ → SourceAfter → FilesAfter → Option (List ℕ) → SinkAfter → ℕ → Option RunFault → Type 0
EndsRun workers turns events left rest source files held sink status None = EndsAtStop workers turns left rest source held sink.held status
EndsRun workers turns events left rest source files held sink status (Some why) =
    (status ≡ 3) × Sent held sink.held (frames_in (outputs workers turns)) × (IsDeskFault why turns sink ⊎ IsReadFault why left rest source files events)

-- A run with workers over a folder with the files of these keys. Its turns are those of a desk with so many workers. Their events are what was
-- posted of the files and the messages, in order, all or a front of it, and between them results that workers sent.
pub record RunsByThreads {F : Type 0} (reads : F → List ℕ → LoadedContent → F → Type 0) (has : List ℕ → Bool) (folder : F) (keys : List (List ℕ)) (files : FilesAfter)
    (left_before : Option (List ℕ)) (source : SourceAfter) (workers : ℕ) (held : Option (List ℕ)) (sink : SinkAfter) (ended : Ended) : Type 0 where
  pub told : Option RunFault
  pub posted : List Event
  pub posts : Posts reads has folder keys files left_before source told posted
  pub taken : List Event
  pub begins : IsPrefix taken posted
  pub turns : List Turn
  pub are_taken : AreTaken (events_of turns) taken
  pub exact : AreExact workers turns
  pub headline : Headline workers turns
  pub ends : EndsRun workers turns posts.events posts.left posts.rest source files held sink ended.status ended.fault

-- a run begins with a listing of the folder
pub record RunsByThreadsOver {F : Type 0} (lists : F → List (List ℕ) → F → Type 0) (reads : F → List ℕ → LoadedContent → F → Type 0) (has : List ℕ → Bool) (folder : F)
    (files : FilesAfter) (left : Option (List ℕ)) (source : SourceAfter) (workers : ℕ) (held : Option (List ℕ)) (sink : SinkAfter) (ended : Ended) : Type 0 where
  pub keys : List (List ℕ)
  pub listed : F
  pub is_list : lists folder keys listed
  pub runs : RunsByThreads reads has listed keys files left source workers held sink ended

abbrev pub RanByThreads : {F : Type 0} → (F → List (List ℕ) → F → Type 0) → (F → List ℕ → LoadedContent → F → Type 0) → (List ℕ → Bool) → F → FilesAfter
    → Option (List ℕ) → SourceAfter → ℕ → Option (List ℕ) → SinkAfter → Ended → Type 0
RanByThreads lists reads has folder files left source workers held sink ended =
    FindsNoList files left source.left held sink.held ended ⊎ RunsByThreadsOver lists reads has folder files left source workers held sink ended
