use Rattle.gq_crew.proofs.Settling.{nothing_ran}
use Rattle.gq_crew.proofs.crew.run_over.Goals as goal

pub returns-in_default : goal.returns-in_default
returns-in_default g c =
    rw c.unserved.ensures.ended
    (rw c.unserved.ensures.input
    (rw c.unserved.ensures.output
    (rw c.unserved.ensures.files
    (nothing_ran g.F.Files.reads (g.F.Files.has c.args.devices.files) c.args.devices.files c.args.keys.items (record { failed = g.F.Files.failed c.args.devices.files; too_deep = g.F.Files.too_deep c.args.devices.files })
    (record { left = g.S.Source.left c.args.devices.input; ended = g.S.Source.ended c.args.devices.input; failed = g.S.Source.failed c.args.devices.input }) c.args.workers (record { held = g.K.Sink.held c.args.devices.output; failed = g.K.Sink.failed c.args.devices.output }) _ tt))))
