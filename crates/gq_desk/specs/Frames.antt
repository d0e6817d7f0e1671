-- The bytes that are written of what a desk puts out, and the status with which it stops.
use Rattle.std.specs.Prelude.{ℕ, List, [], ◌∷◌, flat_map, Option, Some, None}
use Rattle.gq_rpc.specs.Encoding.{frame_of}
use Rattle.gq_events.specs.declared.event.Out.{Out}
use Rattle.gq_events.specs.declared.event.Out.TheVariants as out

-- the frame of a reply or a notification
abbrev pub frame_in : Out → List ℕ
frame_in (out.Reply message) = frame_of message
frame_in (out.Notify message) = frame_of message
frame_in (out.Publish change) = []
frame_in (out.Job job) = []
frame_in (out.Stop status) = []

-- the frames of all, in order
abbrev pub frames_in : List Out → List ℕ
frames_in outs = flat_map frame_in outs

-- the status of a stop, or else that of a later one
abbrev pub or_stop : Out → Option ℕ → Option ℕ
or_stop (out.Stop status) later = Some status
or_stop (out.Reply message) later = later
or_stop (out.Notify message) later = later
or_stop (out.Publish change) later = later
or_stop (out.Job job) later = later

-- the status of the first stop
abbrev pub stop_in : List Out → Option ℕ
stop_in [] = None
stop_in (o ∷ outs) = or_stop o (stop_in outs)
