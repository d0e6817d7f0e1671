-- One event taken, and what it puts out delivered. Only contracts of private functions speak of it.
use Rattle.std.specs.Prelude.{◌≡◌, ℕ, Bool, true, false, List, Option, Some, is_some, Result, Ok, Err}
use Rattle.gq_events.specs.declared.event.Event.{Event}
use Rattle.gq_events.specs.Rules.{Turn}
use Rattle.gq_events.specs.Lifecycle.{is_load}
use Rattle.gq_events.specs.Laws.{Handing, StepsTellHistory, ResultsAreTheirQuestions, ModifiedAtChange}
use Rattle.gq_events.specs.Headline.{EditsAreSafe}
use Rattle.gq_events.specs.Machine.{State, after, writes, FitsTurn}
use Rattle.gq_desk.specs.declared.driving.DriveFault.{DriveFault}
use Rattle.gq_desk.specs.declared.driving.DriveFault.TheVariants as drive
use Rattle.gq_desk.specs.Frames.{stop_in}
use Rattle.gq_desk.specs.Driving.{Delivers, Breaks}

-- the sink failed
abbrev pub is_device : DriveFault → Bool
is_device drive.NoMemory = false
is_device drive.Device = true
is_device drive.Closed = false
is_device drive.TooMany = false
is_device drive.Failed = false

abbrev pub is_device_error : {T : Type 0} → Result T DriveFault → Bool
is_device_error (Ok x) = false
is_device_error (Err fault) = is_device fault

-- one event was taken, and all of its outputs were delivered
pub record TakesTurn {H : Type 0} (takes : H → Handing → H → Type 0) (desk : Option State) (event : Event) (h : H) (held : Option (List ℕ)) (desk' : Option State) (h' : H) (held' : Option (List ℕ)) (stop : Option ℕ) : Type 0 where
  pub before : State
  pub was : desk ≡ Some before
  pub turn : Turn
  pub of : turn.event ≡ event
  pub now : desk' ≡ Some (after before turn)
  pub fits : FitsTurn before turn
  pub delivers : Delivers takes h held (writes before turn) h' held'
  pub stops : stop ≡ stop_in (writes before turn)
  pub no_load : is_some stop ≡ true → is_load turn ≡ false

-- one event was taken, and its outputs were not all delivered
pub record BreaksTurn {H : Type 0} (takes refuses : H → Handing → H → Type 0) (before : State) (event : Event) (h : H) (held : Option (List ℕ)) (h' : H) (held' : Option (List ℕ)) (fault : DriveFault) : Type 0 where
  pub turn : Turn
  pub of : turn.event ≡ event
  pub fits : FitsTurn before turn
  pub breaks : Breaks takes refuses h held (writes before turn) h' held' fault
  pub too_many : fault ≡ drive.TooMany → is_load turn ≡ true

-- what holds of every list of events
pub record Known : Type 0 where
  pub told : StepsTellHistory
  pub results : ResultsAreTheirQuestions
  pub modified : ModifiedAtChange
  pub safe : EditsAreSafe
