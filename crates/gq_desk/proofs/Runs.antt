-- The first stop in what is put out.
use Rattle.std.proofs.Common.{◌≡◌, List, [], ◌∷◌, ◌++◌, None, refl}
use Rattle.gq_events.specs.declared.event.Out.{Out}
use Rattle.gq_events.specs.declared.event.Out.TheVariants as out
use Rattle.gq_desk.specs.Frames.{stop_in}

pub stop_in-append : (outs more : List Out) → stop_in outs ≡ None → stop_in (outs ++ more) ≡ stop_in more
stop_in-append [] more h = refl
stop_in-append (out.Stop status ∷ outs) more h = absurd (cc)
stop_in-append (out.Reply message ∷ outs) more h = stop_in-append outs more h
stop_in-append (out.Notify message ∷ outs) more h = stop_in-append outs more h
stop_in-append (out.Publish change ∷ outs) more h = stop_in-append outs more h
stop_in-append (out.Job job ∷ outs) more h = stop_in-append outs more h
