-- An event while the session goes on.
use Rattle.std.proofs.Common.{◌≡◌, ◌≢◌, List, refl}
use Rattle.gq_events.specs.declared.documents.SessionDocument.{SessionDocument}
use Rattle.gq_events.specs.declared.effect.Phase.{Phase}
use Rattle.gq_events.specs.declared.effect.Phase.TheVariants.{Fresh, Running, Down, Stopped}
use Rattle.gq_events.specs.declared.event.Event.{Event}
use Rattle.gq_events.specs.Rules.{effect_of, effect_going}

pub going : (phase : Phase) (documents : List SessionDocument) (event : Event) → phase ≢ Stopped → effect_of phase documents event ≡ effect_going phase documents event
going Fresh documents event h = refl
going Running documents event h = refl
going Down documents event h = refl
going Stopped documents event h = absurd (h refl)
