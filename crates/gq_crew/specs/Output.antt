-- What a desk puts out for what a run takes, and the bytes that are written of that.
use Rattle.std.specs.Prelude.{◌≡◌, ℕ, List, Option, None}
use Rattle.std.specs.Io.KnownBytes.{Appends}
use Rattle.gq_events.specs.declared.event.LoadedContent.{LoadedContent}
use Rattle.gq_events.specs.declared.event.Out.{Out}
use Rattle.gq_events.specs.Rules.{Turn}
use Rattle.gq_reader.specs.Inputs.{Input, AreEventsOf}
use Rattle.gq_desk.specs.Frames.{frames_in, stop_in}
use Rattle.gq_desk.specs.Standing.{AreAnswered}
use Rattle.gq_desk.specs.Driving.{events_of}

-- the turns of these
abbrev pub AreTurnsOf : {F : Type 0} → (F → List ℕ → LoadedContent → F → Type 0) → F → List Input → List Turn → Type 0
AreTurnsOf reads files inputs turns = AreEventsOf reads files inputs (events_of turns)

-- what was written, where `puts` is what turns put out: all frames, and no stop
pub record WroteAll (puts : List Turn → List Out) (turns : List Turn) (held held' : Option (List ℕ)) : Type 0 where
  pub no_stop : stop_in (puts turns) ≡ None
  pub written : Appends held held' (frames_in (puts turns))

-- for all that a run may take there are turns, where readings may give anything, and their answers may be right
abbrev pub TurnsExist : Type 0
TurnsExist = (inputs : List Input) → (turns : List Turn) × AreTurnsOf {F = Unit {0}} (λ files key content mid. Unit {0}) tt inputs turns × AreAnswered 0 turns
