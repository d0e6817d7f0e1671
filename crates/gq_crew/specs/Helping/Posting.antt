-- Events that are posted, one after another. Only contracts of private functions speak of it.
use Rattle.std.specs.Prelude.{◌≡◌, Bool, true, false, List, [], ◌∷◌, ◌++◌, length, Option, Some, None}
use Rattle.std.specs.Iterator.{Yields, YieldsThen}
use mathlib.Core.List.{IsPrefix}
use Rattle.gq_events.specs.declared.event.Event.{Event}
use Rattle.gq_events.specs.declared.event.InputEnd.{InputEnd}
use Rattle.gq_events.specs.declared.event.InputEnd.TheVariants.{Border, Fault}
use Rattle.gq_desk.specs.Driving.{events_max}
use Rattle.gq_reader.specs.declared.fault.RunFault.{RunFault}
use Rattle.gq_crew.specs.declared.reader_side.Posting.{Posting}
use Rattle.gq_crew.specs.declared.reader_side.Posting.TheVariants.{Stopped, Ended, TooMany}

-- one was posted, or nobody took it
abbrev pub PostsOne : Event → Bool → List Event → List Event → Type 0
PostsOne e true posted posted' = posted' ≡ posted ++ e ∷ []
PostsOne e false posted posted' = posted' ≡ posted

-- These came, and were posted: all or a front, where posting stopped; all that come; or as many as there may be.
abbrev pub PostsAll : {X : Type 0} → (X → Option Event → X → Type 0) → X → List Event → Posting → X → List Event → Type 0
PostsAll steps a posted Stopped b posted' = (events : List Event) × Yields steps a events b × IsPrefix posted' (posted ++ events)
PostsAll steps a posted Ended b posted' = (events : List Event) × YieldsThen steps a events None b × (posted' ≡ posted ++ events)
PostsAll steps a posted TooMany b posted' = (events : List Event) × Yields steps a events b × (posted' ≡ posted ++ events) × (length events ≡ events_max)

-- how the input ended, by the fault that was told
abbrev pub end_by : Option RunFault → InputEnd
end_by None = Border
end_by (Some why) = Fault
