-- The files of the faults are marked.
use Rattle.std.proofs.Common.{List, ℕ, Contains, subst, sym, ◌∙◌}
use Rattle.std.proofs.lemmas.Result.{IfOk-weaker}
use Rattle.gq_fault.specs.declared.fault.Fault.{Fault}
use Rattle.gq_types.proofs.Gathered.{to_map}
use Rattle.gq_by_file.proofs.Closed.Within.{to_among}
use Rattle.gq_by_file.proofs.CoverLemmas.{walked}
use Rattle.gq_by_file.proofs.covers.faulty_files.Goals as goal

pub returns : goal.returns
returns c =
    let all = walked (λ (z : Fault). z.file) c.loop-fault.files.items c.args.faults.now c.loop-fault.fault-index c.loop-fault-test.false c.loop-fault.invariant in
    IfOk-weaker c.marked.result _ _
    (λ marks is fault stands below.
    is fault.file below
    ∙ to_among c.deref.result.now fault.file (subst (λ (ns : List ℕ). Contains ns fault.file) (sym (c.deref.ensures.value ∙ all)) (to_map (λ (z : Fault). z.file) c.args.faults.now fault stands)))
    c.marked.ensures.marked
