use Rattle.gq_crew.proofs.Settling.{nothing_ran, start_cause}
use Rattle.gq_crew.proofs.crew.serve_beside.Goals as goal

pub returns-in-Err : goal.returns-in-Err
returns-in-Err g c =
    rw c.let_go.ensures.ended
    (rw c.let_go.ensures.input
    (rw c.let_go.ensures.output
    (rw c.let_go.ensures.files
    (nothing_ran g.F.Files.reads (g.F.Files.has c.args.reader.files) c.args.reader.files c.args.reader.keys.items (record { failed = g.F.Files.failed c.args.reader.files; too_deep = g.F.Files.too_deep c.args.reader.files })
    (record { left = g.S.Source.left c.args.reader.input; ended = g.S.Source.ended c.args.reader.input; failed = g.S.Source.failed c.args.reader.input }) c.args.workers
    (record { held = g.K.Sink.held c.args.desk.output; failed = g.K.Sink.failed c.args.desk.output }) _ (start_cause c.in-Err.fault _ c.in-Err.ensures.fault)))))
