-- What a run with workers and its two sides are given, and what they come to. Only contracts of private functions speak of it.
use Rattle.std.specs.Prelude.{◌≡◌, ◌⊎◌, ℕ, Bool, false, List, [], Option, Result, MatchResult}
use Rattle.gq_events.specs.declared.event.Event.{Event}
use Rattle.gq_events.specs.declared.event.LoadedContent.{LoadedContent}
use Rattle.gq_board.specs.declared.history.Room.{Ghosts}
use Rattle.gq_workers.specs.Ends.{posted, collected, collected_in, reader_on, desk_on, collected_on}
use Rattle.gq_reader.specs.declared.fault.RunFault.{RunFault}
use Rattle.gq_reader.specs.declared.fault.RunFault.TheVariants as fault
use Rattle.gq_crew.specs.declared.crew.Devices.{Devices}
use Rattle.gq_crew.specs.declared.crew.Ran.{Ran}
use Rattle.gq_crew.specs.declared.reader_side.ReaderSide.{ReaderSide}
use Rattle.gq_crew.specs.declared.reader_side.ReaderCame.{ReaderCame}
use Rattle.gq_crew.specs.declared.desk_side.DeskSide.{DeskSide}
use Rattle.gq_crew.specs.declared.desk_side.DeskCame.{DeskCame}
use Rattle.gq_crew.specs.declared.one_thread.Ended.{Ended}
use Rattle.gq_crew.specs.Runs.{SinkAfter, source_after, files_after, sink_after}
use Rattle.gq_crew.specs.Crew.{Posts, DeskRuns, RunsByThreads}

-- why workers could not be started
abbrev pub IsStartFault : RunFault → Type 0
IsStartFault why = (why ≡ fault.NoMemory) ⊎ (why ≡ fault.NoThread)

-- ---- what is given

-- devices, none of which has failed
abbrev pub Given : {S K F : Type 0} → (S → Bool) → (K → Bool) → (F → Bool) → Devices S K F → Type 0
Given source_failed sink_failed files_failed devices =
    (source_failed devices.input ≡ false) × (sink_failed devices.output ≡ false) × (files_failed devices.files ≡ false)

module _ {J : Type 0} {g : Ghosts J} where
  -- the reader's: sound devices, and an end by which nothing was posted
  abbrev pub GivenReader : {S F : Type 0} → (S → Bool) → (F → Bool) → ReaderSide J S F g → Type 0
  GivenReader source_failed files_failed side = (source_failed side.input ≡ false) × (files_failed side.files ≡ false) × (posted side.end ≡ [])

  -- the desk's: a sound sink, and an end by which nothing was collected
  abbrev pub GivenDesk : {K : Type 0} → (K → Bool) → DeskSide J K g → Type 0
  GivenDesk sink_failed side = (sink_failed side.output ≡ false) × (collected side.end ≡ [])

  -- both, with the ends of one inbox
  abbrev pub GivenSides : {S K F : Type 0} → (S → Bool) → (K → Bool) → (F → Bool) → ReaderSide J S F g → DeskSide J K g → Type 0
  GivenSides source_failed sink_failed files_failed reader desk =
      GivenReader source_failed files_failed reader × GivenDesk sink_failed desk × (reader_on reader.end ≡ desk_on desk.end)

  abbrev pub devices_of : {S K F : Type 0} → ReaderSide J S F g → DeskSide J K g → Devices S K F
  devices_of reader desk = record { input = reader.input; output = desk.output; files = reader.files }

  -- ---- what they come to

  -- what the reader posted, by its end
  abbrev pub ReaderComes : {S F : Type 0} → (F → List ℕ → LoadedContent → F → Type 0) → (F → List ℕ → Bool) → (F → Bool) → (F → Bool) → (S → Option (List ℕ)) → (S → Bool) → (S → Bool)
      → ReaderSide J S F g → ReaderCame J S F g → Type 0
  ReaderComes reads has files_failed too_deep left ended source_failed side came = (reader_on came.end ≡ reader_on side.end)
      × Posts reads (has side.files) side.files side.keys.items (files_after files_failed too_deep came.files) (left side.input) (source_after left ended source_failed came.input) came.told (posted came.end)

  -- what came of a reader: what it left once it had read, or itself, as it was
  abbrev pub ReaderTurns : {S F : Type 0} → (F → List ℕ → LoadedContent → F → Type 0) → (F → List ℕ → Bool) → (F → Bool) → (F → Bool) → (S → Option (List ℕ)) → (S → Bool) → (S → Bool)
      → ReaderSide J S F g → Result (ReaderCame J S F g) (ReaderSide J S F g) → Type 0
  ReaderTurns reads has files_failed too_deep left ended source_failed side turn =
      MatchResult turn (λ came. ReaderComes reads has files_failed too_deep left ended source_failed side came) (λ rested. rested ≡ side)

  -- what the desk came to over what it collected, by its end
  abbrev pub DeskComes : {K : Type 0} → (K → Option (List ℕ)) → (K → Bool) → ℕ → DeskSide J K g → DeskCame J K g → Type 0
  DeskComes held sink_failed workers side came = (collected_on came.collected ≡ desk_on side.end)
      × DeskRuns workers (collected_in came.collected) (held side.output) (sink_after held sink_failed came.output) came.ended

-- what a desk came to over what it took, and that its end is of the same inbox
abbrev pub DeskDrives : {I : Type 0} → ℕ → I → I → List Event → Option (List ℕ) → SinkAfter → Ended → Type 0
DeskDrives workers on on' taken held sink ended = (on' ≡ on) × DeskRuns workers taken held sink ended

-- what a run with workers came to, over the files of these keys and with these devices
abbrev pub Comes : {S K F : Type 0} → (F → List ℕ → LoadedContent → F → Type 0) → (F → List ℕ → Bool) → (F → Bool) → (F → Bool) → (S → Option (List ℕ)) → (S → Bool) → (S → Bool)
    → (K → Option (List ℕ)) → (K → Bool) → ℕ → List (List ℕ) → Devices S K F → Ran S K F → Type 0
Comes reads has files_failed too_deep left ended source_failed held sink_failed workers keys devices ran =
    RunsByThreads reads (has devices.files) devices.files keys (files_after files_failed too_deep ran.files) (left devices.input) (source_after left ended source_failed ran.input)
    workers (held devices.output) (sink_after held sink_failed ran.output) ran.ended
