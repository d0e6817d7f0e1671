-- A run: the files that were loaded, the bytes that were read, the bodies that stand in them, and how it ended.
use Rattle.std.specs.Prelude.{◌≡◌, ◌⊎◌, ℕ, ◌≤◌, ◌^◌, List, [], ◌∷◌, ◌++◌, map, length, Bool, true, false, Option, Some, None}
use Rattle.std.specs.Io.KnownBytes.{Appends, Consumes}
use Rattle.gq_rpc.specs.Devices.{Sent}
use Rattle.gq_rpc.specs.Frames.{Cuts, scan_of}
use Rattle.gq_rpc.specs.declared.header.Scan.TheVariants.{Partial}
use Rattle.gq_rpc.specs.declared.header.FrameFault.{FrameFault}
use Rattle.gq_events.specs.declared.event.LoadedContent.{LoadedContent}
use Rattle.gq_events.specs.declared.event.Out.{Out}
use Rattle.gq_events.specs.Rules.{Turn}
use Rattle.gq_events.specs.History.{outputs}
use Rattle.gq_events.specs.Lifecycle.{is_load}
use Rattle.gq_events.specs.Headline.{Headline}
use Rattle.gq_crew.specs.declared.one_thread.Ended.{Ended}
use Rattle.gq_reader.specs.declared.fault.RunFault.{RunFault}
use Rattle.gq_reader.specs.declared.fault.RunFault.TheVariants.{Frame, Device, NoMemory, TooDeep, TooMany, Closed, NoPlace, NoThread}
use Rattle.gq_desk.specs.Frames.{frames_in, stop_in}
use Rattle.gq_desk.specs.Standing.{AreAnswered}
use Rattle.gq_desk.specs.Driving.{AreExact}
use Rattle.gq_reader.specs.Inputs.{Input, File, inputs_of}
use Rattle.gq_reader.specs.Reading.{SourceAfter, FilesAfter, TellsEnd, IsFrameFault, piece_max}
use Rattle.gq_crew.specs.Output.{AreTurnsOf, WroteAll}

-- how a sink stands after it: the bytes that were written, where they are known, and whether a write has failed
pub record SinkAfter : Type 0 where
  pub held : Option (List ℕ)
  pub failed : Bool

-- how a source, a folder and a sink stand, by what each of them tells
abbrev pub source_after : {S : Type 0} → (S → Option (List ℕ)) → (S → Bool) → (S → Bool) → S → SourceAfter
source_after left ended failed source = record { left = left source; ended = ended source; failed = failed source }

abbrev pub files_after : {F : Type 0} → (F → Bool) → (F → Bool) → F → FilesAfter
files_after failed too_deep files = record { failed = failed files; too_deep = too_deep files }

abbrev pub sink_after : {K : Type 0} → (K → Option (List ℕ)) → (K → Bool) → K → SinkAfter
sink_after held failed sink = record { held = held sink; failed = failed sink }

-- what a run came to: what turns put out, the turns of what it took, what was left to be taken, the rest of the bytes read, how the source
-- and the files stand, and what the sink held before and holds then
pub record Reached : Type 0 where
  pub puts : List Turn → List Out
  pub turns : List Turn
  pub left : List Input
  pub rest : List ℕ
  pub source : SourceAfter
  pub files : FilesAfter
  pub held : Option (List ℕ)
  pub sink : SinkAfter

-- no turn stops the session, and the frames of all that they put out were written
abbrev pub AnswersTaken : Reached → Type 0
AnswersTaken run = WroteAll run.puts run.turns run.held run.sink.held

-- and nothing was left
pub record AnswersAll (run : Reached) : Type 0 where
  pub none_left : run.left ≡ []
  pub answers : AnswersTaken run

-- the last turn stopped the session, with this status: that of a file, or another
pub record StopsAt (run : Reached) (by_load : Bool) (status : ℕ) : Type 0 where
  pub before : List Turn
  pub last : Turn
  pub whole : run.turns ≡ before ++ last ∷ []
  pub is_by : is_load last ≡ by_load
  pub goes : stop_in (run.puts before) ≡ None
  pub stops : stop_in (run.puts run.turns) ≡ Some status
  pub written : Appends run.held run.sink.held (frames_in (run.puts run.turns))

-- the input ended behind a whole frame, without a stop
pub record EndsInput (run : Reached) (status : ℕ) : Type 0 where
  pub one : status ≡ 1
  pub answers : AnswersAll run
  pub no_rest : run.rest ≡ []
  pub tells : TellsEnd run.source

-- it ended at what is no frame; the bodies before were answered
pub record FindsNoFrame (run : Reached) (why : FrameFault) : Type 0 where
  pub answers : AnswersAll run
  pub is_fault : IsFrameFault why run.rest run.source

-- the sink has failed; a front of the frames was written
pub record SinkFails (run : Reached) : Type 0 where
  pub failed : run.sink.failed ≡ true
  pub front : Sent run.held run.sink.held (frames_in (run.puts run.turns))

-- the source has failed; all bodies were answered, and what is left is less than a frame
pub record SourceFails (run : Reached) : Type 0 where
  pub failed : run.source.failed ≡ true
  pub answers : AnswersAll run
  pub partial : scan_of run.rest ≡ Partial

-- so many turns a run answers; then it ends
abbrev pub turns_max : ℕ
turns_max = 2 ^ 60

pub record AnswersSoMany (run : Reached) : Type 0 where
  pub answers : AnswersTaken run
  pub many : length run.turns ≡ turns_max

-- something comes behind those that were answered: a turn, or what was left
abbrev pub is_more : List Turn → List Input → Bool
is_more [] [] = false
is_more [] (input ∷ left) = true
is_more (turn ∷ behind) left = true

-- memory was refused for what came next: the turns before it were answered, without a stop, and nothing was written of it
pub record LacksMemory (run : Reached) : Type 0 where
  pub answered : List Turn
  pub behind : List Turn
  pub whole : run.turns ≡ answered ++ behind
  pub wrote : WroteAll run.puts answered run.held run.sink.held
  pub more : is_more behind run.left ≡ true

-- the folder has failed at the file that came next; all before it was answered
pub record FilesFail (run : Reached) : Type 0 where
  pub failed : run.files.failed ≡ true
  pub answers : AnswersTaken run
  pub key : List ℕ
  pub behind : List Input
  pub next : run.left ≡ File key ∷ behind

-- how a run ended
abbrev pub Ends : Reached → ℕ → Option RunFault → Type 0
Ends run status None = StopsAt run false status ⊎ EndsInput run status
Ends run status (Some (Frame why)) = (status ≡ 3) × FindsNoFrame run why
Ends run status (Some Device) = (status ≡ 3) × (SinkFails run ⊎ (SourceFails run ⊎ (FilesFail run ⊎ AnswersSoMany run)))
Ends run status (Some NoMemory) = (status ≡ 3) × LacksMemory run
Ends run status (Some TooMany) = (status ≡ 3) × StopsAt run true 3
Ends run status (Some TooDeep) = ⊥
Ends run status (Some Closed) = ⊥
Ends run status (Some NoPlace) = ⊥
Ends run status (Some NoThread) = ⊥

-- what stands in the bytes of all reads but the last one was answered, without a stop, behind all files that were loaded first, and what was
-- written begins with that
pub record AnswersEarlier {F : Type 0} (puts : List Turn → List Out) (reads : F → List ℕ → LoadedContent → F → Type 0) (has : List ℕ → Bool) (folder : F)
    (keys : List (List ℕ)) (turns : List Turn) (read : List ℕ) (held held' : Option (List ℕ)) : Type 0 where
  pub earlier : List ℕ
  pub piece : List ℕ
  pub bodies : List (List ℕ)
  pub rest : List ℕ
  pub front : List Turn
  pub later : List Turn
  pub more : List ℕ
  pub whole : read ≡ earlier ++ piece
  pub short : length piece ≤ piece_max
  pub cuts : Cuts earlier bodies rest
  pub partial : scan_of rest ≡ Partial
  pub are_turns : AreTurnsOf reads folder (map File keys ++ inputs_of has bodies) front
  pub begins : turns ≡ front ++ later
  pub no_stop : stop_in (puts front) ≡ None
  pub written : Appends held held' (frames_in (puts front) ++ more)

-- A run over a folder with the files of these keys. It takes these files, then the bodies that stand in the bytes read, in order, and behind one
-- that closes a document of the folder that file again; all or the first of these. Its turns are those of a desk without workers whose events are
-- the files, as they were read, and the messages of the bodies. Each task that they bring is answered as is defined, so each result that is
-- replied is exactly its question's, and each edit is safe. What is written is the frames of what these turns put out, as the list of events
-- tells it.
pub record RunsListed {F : Type 0} (reads : F → List ℕ → LoadedContent → F → Type 0) (has : List ℕ → Bool) (folder : F) (keys : List (List ℕ)) (files : FilesAfter)
    (left_before : Option (List ℕ)) (source : SourceAfter) (held : Option (List ℕ)) (sink : SinkAfter) (ended : Ended) : Type 0 where
  pub read : List ℕ
  pub bodies : List (List ℕ)
  pub rest : List ℕ
  pub inputs : List Input
  pub left : List Input
  pub turns : List Turn
  pub took : Consumes left_before source.left read
  pub cuts : Cuts read bodies rest
  pub all : map File keys ++ inputs_of has bodies ≡ inputs ++ left
  pub are_turns : AreTurnsOf reads folder inputs turns
  pub answered : AreAnswered 0 turns
  pub exact : AreExact 0 turns
  pub headline : Headline 0 turns
  pub earlier : (read ≡ []) ⊎ AnswersEarlier (outputs 0) reads has folder keys turns read held sink.held
  pub ends : Ends (record { puts = outputs 0; turns = turns; left = left; rest = rest; source = source; files = files; held = held; sink = sink }) ended.status ended.fault

-- why there was no run
abbrev pub IsListFault : FilesAfter → Option RunFault → Type 0
IsListFault files None = ⊥
IsListFault files (Some (Frame why)) = ⊥
IsListFault files (Some Device) = files.failed ≡ true
IsListFault files (Some NoMemory) = Unit {0}
IsListFault files (Some TooMany) = ⊥
IsListFault files (Some TooDeep) = files.too_deep ≡ true
IsListFault files (Some Closed) = ⊥
IsListFault files (Some NoPlace) = ⊥
IsListFault files (Some NoThread) = ⊥

-- the folder could not be listed; nothing was read, and nothing was written
pub record FindsNoList (files : FilesAfter) (left left' held held' : Option (List ℕ)) (ended : Ended) : Type 0 where
  pub nothing_read : left' ≡ left
  pub nothing_written : held' ≡ held
  pub status : ended.status ≡ 3
  pub is_fault : IsListFault files ended.fault

-- a run begins with a listing of the folder
pub record RunsOver {F : Type 0} (lists : F → List (List ℕ) → F → Type 0) (reads : F → List ℕ → LoadedContent → F → Type 0) (has : List ℕ → Bool) (folder : F)
    (files : FilesAfter) (left : Option (List ℕ)) (source : SourceAfter) (held : Option (List ℕ)) (sink : SinkAfter) (ended : Ended) : Type 0 where
  pub keys : List (List ℕ)
  pub listed : F
  pub is_list : lists folder keys listed
  pub runs : RunsListed reads has listed keys files left source held sink ended

abbrev pub Ran : {F : Type 0} → (F → List (List ℕ) → F → Type 0) → (F → List ℕ → LoadedContent → F → Type 0) → (List ℕ → Bool) → F → FilesAfter
    → Option (List ℕ) → SourceAfter → Option (List ℕ) → SinkAfter → Ended → Type 0
Ran lists reads has folder files left source held sink ended =
    FindsNoList files left source.left held sink.held ended ⊎ RunsOver lists reads has folder files left source held sink ended
