use Rattle.std.proofs.Common.{true, false, All, subst}
use Rattle.gq_graph.specs.Reach.{Reach, row}
use Rattle.gq_merging.specs.Helping.StartTables.{SetsMarks}
use Rattle.gq_merging.proofs.StartLemmas.{passes}
use Rattle.gq_merging.proofs.passed.passed_rows.Goals as goal

pub returns : goal.returns
returns c =
    passes (row c.args.spreads.now) c.args.marks.now c.put_marks.new.marks.items c.put_marks-2.new.marks.items c.in_ok-roots.roots.items c.in_ok-found.found.items
    c.in_ok-roots.ensures
    (subst (λ rs. All (λ n. Reach rs (row c.args.spreads.now) n) c.in_ok-found.found.items) c.deref.ensures.value c.in_ok-found.ensures.sound)
    (subst (λ ns. SetsMarks ns true c.args.marks.now c.put_marks.new.marks.items) c.deref-2.ensures.value
    (subst (λ ms. SetsMarks c.deref-2.result.now true ms c.put_marks.new.marks.items) c.in_ok-passed.ensures.items c.put_marks.ensures))
    (subst (λ ns. SetsMarks ns false c.put_marks.new.marks.items c.put_marks-2.new.marks.items) c.deref-3.ensures.value c.put_marks-2.ensures)
