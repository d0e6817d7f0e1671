-- Nothing is told of a valid project, and what is told of another one stands in order.
use Rattle.std.proofs.Common.{◌∙◌, List, ap, length, arith}
use Rattle.std.proofs.lemmas.Bool.Decides.{nat_tests}
use Rattle.std.proofs.lemmas.List.{nil_from_length}
use Rattle.gq_project.specs.declared.document.Doc.{Doc}
use Rattle.gq_tree.specs.Readings.{readings_view}
use Rattle.gq_fault.specs.Tells.{told}
use Rattle.gq_kept.proofs.JudgingLemmas.{nothing_told, something_told, told_in_order}
use Rattle.gq_kept.proofs.judging.report_if_any.Goals as goal

pub returns-then-is_empty-clause-valid : goal.returns-then-is_empty-clause-valid
returns-then-is_empty-clause-valid c known owned =
    nothing_told c.args.known.project.now (readings_view c.args.known.readings.now) known.are_readings c.in_ok-faults.faults.items (c.in_ok-faults.ensures.faults known owned) (nil_from_length _ (grind (arith, nat_tests)))

pub returns-clause-invalid : goal.returns-clause-invalid
returns-clause-invalid c known owned =
    let documents : List Doc = c.args.known.project.now in
    let rs = readings_view c.args.known.readings.now in
    let exact = c.in_ok-faults.ensures.faults known owned in (
      told_in_order documents rs known.are_readings c.in_ok-faults.faults.items exact c.put_in_order.new.faults.items c.put_in_order.ensures.sorted c.put_in_order.ensures.same c.in_ok-told.told.items
          (c.in_ok-told.ensures ∙ ap (λ (ds : List Doc). told ds c.deref.result.now) c.documents.ensures.all ∙ ap (told documents) c.deref.ensures.value),
      something_told documents rs known.are_readings c.in_ok-faults.faults.items exact (λ e. let l = ap length e in grind (arith, nat_tests)),
    )
