use Rattle.std.proofs.Common.{◌++◌, List, Bool, ap, ◌∙◌, length, subst, ◌<◌}
use Rattle.std.proofs.lemmas.List.{length-map}
use Rattle.std.proofs.lemmas.Result.{on_ok_weaker}
use Rattle.gq_tree.specs.Readings.{readings_view, shared_view}
use Rattle.gq_fault.specs.declared.fault.Fault.{Fault}
use Rattle.gq_types.specs.Entries.{entries_view}
use Rattle.gq_known.specs.MixedFaults.{each_from}
use Rattle.gq_known.specs.Helping.Marked.{marked_mixed_at}
use Rattle.gq_known.proofs.MixedLemmas.{marked_are}
use Rattle.gq_known.proofs.executable_definitions.add_mixed_of.Goals as goal

pub returns : goal.returns
returns c =
    let es = entries_view c.args.entries.now in
    let rs = readings_view c.args.readings.now in
    let marks = c.in_ok-marks.marks.items in
    on_ok_weaker c.add_marked.result
    (λ put is. put ∙ ap (λ (fs : List Fault). c.args.faults.now.items ++ fs)
    (ap (λ (ms : List Bool). each_from (marked_mixed_at ms) 0 rs) c.deref.ensures.value
    ∙ marked_are es rs marks is (λ e stands within. c.in_ok-marks.ensures.marked e stands (subst (λ n. e.file < n) (length-map c.args.readings.now shared_view) within))))
    c.add_marked.ensures
