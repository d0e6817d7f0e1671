-- What it means that a desk stands for events.
use Rattle.std.specs.Prelude.{ℕ, ◌+◌, ◌≤◌, List, [], length, Option, Some, IfSome}
use Rattle.gq_events.specs.declared.event.Event.{Event}
use Rattle.gq_events.specs.declared.event.Out.{Out}
use Rattle.gq_events.specs.Rules.{Turn}
use Rattle.gq_events.specs.Machine.{State, DeskSteps, start}
use Rattle.gq_desk.specs.Standing.{StandsFor, StepsOn}

-- a new desk stands for no events
abbrev pub NewDesksStandForNone : Type 0
NewDesksStandForNone = (workers : ℕ) → StandsFor workers [] (Some (start workers))

-- a step leads to one more
abbrev pub StepsLeadOn : Type 0
StepsLeadOn =
    (workers : ℕ) (earlier : List Turn) (desk : Option State) (event : Event) (outs : List Out) (desk' : Option State) → StandsFor workers earlier desk → DeskSteps desk event outs desk'
    → StepsOn workers earlier event outs desk'

-- each event uses up one number at most
abbrev pub NumbersStayLow : Type 0
NumbersStayLow = (workers : ℕ) (turns : List Turn) (desk : Option State) → StandsFor workers turns desk → IfSome desk (λ s. s.jobs.next ≤ length turns + 1)
