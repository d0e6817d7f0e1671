-- What a desk stands for: the events that it took.
use Rattle.std.specs.Prelude.{◌≡◌, ℕ, ◌<◌, List, [], ◌∷◌, ◌++◌, length, Option, Some}
use Rattle.gq_events.specs.declared.event.Event.{Event}
use Rattle.gq_events.specs.declared.event.Out.{Out}
use Rattle.gq_events.specs.Rules.{Turn}
use Rattle.gq_events.specs.History.{outputs_behind, IsAnswered}
use Rattle.gq_events.specs.Machine.{State, start, reached}

-- where no worker is to answer, each task is answered as is defined
abbrev pub AreAnswered : ℕ → List Turn → Type 0
AreAnswered workers turns = (j : ℕ) → j < length turns → IsAnswered workers turns j

-- a desk for so many workers has come to where these turns lead
pub record StandsFor (workers : ℕ) (turns : List Turn) (desk : Option State) : Type 0 where
  pub reached_by : desk ≡ Some (reached (start workers) turns)
  pub answered : AreAnswered workers turns

-- one event more was taken, and what was put out for it is what the list of events tells
pub record StepsOn (workers : ℕ) (earlier : List Turn) (event : Event) (outs : List Out) (desk' : Option State) : Type 0 where
  pub turn : Turn
  pub of : turn.event ≡ event
  pub stands : StandsFor workers (earlier ++ turn ∷ []) desk'
  pub puts_out : outs ≡ outputs_behind workers earlier (turn ∷ [])
