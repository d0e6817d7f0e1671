use Rattle.std.proofs.Common.{◌≡◌, subst, refl}
use Rattle.gq_workers.specs.Ends.{posted, collected_in}
use Rattle.gq_crew.specs.Helping.Sides.{ReaderComes, ReaderTurns}
use Rattle.gq_crew.proofs.Settling.{settles, nothing_ran}
use Rattle.gq_crew.proofs.crew.serve_both.Goals as goal

pub returns-in-Ok : goal.returns-in-Ok
returns-in-Ok g c =
    let read = c.join_reader.result in
    let drove = c.drive_side-drove.result in
    let comes = subst (λ side. ReaderComes g.F.Files.reads g.F.Files.has g.F.Files.failed g.F.Files.too_deep g.S.Source.left g.S.Source.ended g.S.Source.failed side read) c.in-Ok.ensures c.join_reader.ensures in
    rw c.settle.ensures.files
    (rw c.settle.ensures.input
    (rw c.settle.ensures.output
    (settles g.F.Files.reads (g.F.Files.has c.args.reader.files) c.args.reader.files c.args.reader.keys.items (record { failed = g.F.Files.failed read.files; too_deep = g.F.Files.too_deep read.files }) (g.S.Source.left c.args.reader.input)
    (record { left = g.S.Source.left read.input; ended = g.S.Source.ended read.input; failed = g.S.Source.failed read.input }) c.args.workers (g.K.Sink.held c.args.desk.output)
    (record { held = g.K.Sink.held drove.output; failed = g.K.Sink.failed drove.output }) read.told (posted read.end) (collected_in drove.collected) comes.1 c.settle.ensures.begins drove.ended c.drive_side-drove.ensures.1
    c.settle.result.ended c.settle.ensures.ended)))

pub returns-in-Err-Ok : goal.returns-in-Err-Ok
returns-in-Err-Ok g c =
    let read = c.in-Err-Ok.read in
    let drove = c.drive_side.result in
    let comes : ReaderComes g.F.Files.reads g.F.Files.has g.F.Files.failed g.F.Files.too_deep g.S.Source.left g.S.Source.ended g.S.Source.failed c.args.reader read = subst (λ turn. ReaderTurns g.F.Files.reads g.F.Files.has g.F.Files.failed g.F.Files.too_deep g.S.Source.left g.S.Source.ended g.S.Source.failed c.args.reader turn) c.in-Err-Ok.field-0-is c.in-Err-Ok.ensures in
    rw c.settle-in-Err-Ok.ensures.files
    (rw c.settle-in-Err-Ok.ensures.input
    (rw c.settle-in-Err-Ok.ensures.output
    (settles g.F.Files.reads (g.F.Files.has c.args.reader.files) c.args.reader.files c.args.reader.keys.items (record { failed = g.F.Files.failed read.files; too_deep = g.F.Files.too_deep read.files }) (g.S.Source.left c.args.reader.input)
    (record { left = g.S.Source.left read.input; ended = g.S.Source.ended read.input; failed = g.S.Source.failed read.input }) c.args.workers (g.K.Sink.held c.args.desk.output)
    (record { held = g.K.Sink.held drove.output; failed = g.K.Sink.failed drove.output }) read.told (posted read.end) (collected_in drove.collected) comes.1 c.settle-in-Err-Ok.ensures.begins drove.ended c.drive_side.ensures.1
    c.settle-in-Err-Ok.result.ended c.settle-in-Err-Ok.ensures.ended)))

pub returns-in-Err-Err : goal.returns-in-Err-Err
returns-in-Err-Err g c =
    let same : c.in-Err-Err.reader ≡ c.args.reader = subst (λ turn. ReaderTurns g.F.Files.reads g.F.Files.has g.F.Files.failed g.F.Files.too_deep g.S.Source.left g.S.Source.ended g.S.Source.failed c.args.reader turn) c.in-Err-Err.field-0-is c.in-Err-Err.ensures in
    rw c.let_go.ensures.ended
    (rw c.let_go.ensures.input
    (rw c.let_go.ensures.output
    (rw c.let_go.ensures.files
    (rw same
    (nothing_ran g.F.Files.reads (g.F.Files.has c.args.reader.files) c.args.reader.files c.args.reader.keys.items (record { failed = g.F.Files.failed c.args.reader.files; too_deep = g.F.Files.too_deep c.args.reader.files })
    (record { left = g.S.Source.left c.args.reader.input; ended = g.S.Source.ended c.args.reader.input; failed = g.S.Source.failed c.args.reader.input }) c.args.workers
    (record { held = g.K.Sink.held c.args.desk.output; failed = g.K.Sink.failed c.args.desk.output }) _ refl)))))
