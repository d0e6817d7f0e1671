-- What is noted of the document is right, and so is its mark.
use Rattle.std.proofs.lemmas.Result.{IfOk-weaker}
use Rattle.gq_tree.specs.Readings.{shared_view}
use Rattle.gq_kept.proofs.FieldListsLemmas.{selected_at}
use Rattle.gq_kept.proofs.field_lists.mark_at.Goals as goal

pub returns-clause-mark : goal.returns-clause-mark
returns-clause-mark c =
    let r = shared_view c.args.reading.now in
    let noted = c.in_ok-note.ensures.noted in
    IfOk-weaker c.mark_of.result _ _
    (λ mark right rs there are.
    right (selected_at rs c.note.new.lists.items c.args.file r c.index_mut.result.now there noted c.index_mut.ensures.value (c.in_ok-note.ensures.known rs are)))
    c.mark_of.ensures.mark
