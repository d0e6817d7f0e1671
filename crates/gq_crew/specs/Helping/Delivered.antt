-- Events that are collected, one after another. Only contracts of private functions speak of it.
use Rattle.std.specs.Prelude.{◌≡◌, ◌⊎◌, Bool, true, List, [], ◌∷◌, ◌++◌, Option, Some, None}
use Rattle.gq_events.specs.declared.event.Event.{Event}
use Rattle.gq_events.specs.declared.event.Event.TheVariants as event
use Rattle.gq_events.specs.Jobs.{DoneOf}
use Rattle.gq_crew.specs.Crew.{IsSent}

-- how an end of the inbox stands: the events that were read, of those that were collected, and whether nobody is left
pub record Box (I : Type 0) : Type 0 where
  pub on : I
  pub collected : List Event
  pub ended : Bool

-- one that was read, or one that came of what a worker sent
abbrev pub Gives : Event → List Event → List Event → Type 0
Gives e collected collected' = (collected' ≡ collected ++ e ∷ []) ⊎ ((collected' ≡ collected) × ((done : DoneOf) × (e ≡ event.Done done) × IsSent done))

abbrev pub Delivers : {I : Type 0} → Box I → Option Event → Box I → Type 0
Delivers a (Some e) b = (b.on ≡ a.on) × (b.ended ≡ a.ended) × Gives e a.collected b.collected
Delivers a None b = (b.on ≡ a.on) × (b.ended ≡ true) × (b.collected ≡ a.collected)
