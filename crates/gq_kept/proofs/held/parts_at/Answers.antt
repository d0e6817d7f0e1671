-- What is noted of the document is right, and so is what is answered.
use Rattle.std.proofs.lemmas.Result.{IfOk-weaker}
use Rattle.gq_tree.specs.Readings.{shared_view}
use Rattle.gq_kept.specs.Helping.Held.{ArePartsOf}
use Rattle.gq_kept.proofs.NotedLemmas.{noted_at, noted_less}
use Rattle.gq_kept.proofs.held.parts_at.Goals as goal

pub returns-clause-parts : goal.returns-clause-parts
returns-clause-parts c =
    let r = shared_view c.args.reading.now in
    let noted = c.in_ok-reach.ensures.noted in
    IfOk-weaker c.parts_of.result _ _
    (λ parts right rs there are.
    right (noted_at ArePartsOf rs c.reach.new.self.notes.items c.args.file r c.index_mut.result.now there noted c.index_mut.ensures.value
    (noted_less ArePartsOf rs c.args.noted.now.notes.items c.reach.new.self.notes.items c.in_ok-reach.ensures.stays are)))
    c.parts_of.ensures.parts
