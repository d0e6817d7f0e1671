use Rattle.std.proofs.Common.{◌∙◌, List, ap, subst, true, filter}
use Rattle.std.specs.Bool.{beq}
use Rattle.gq_fault.specs.declared.fault.Fault.{Fault}
use Rattle.gq_fault.specs.Adds.{AddsExactly}
use Rattle.gq_document.specs.Executable.{executable_view}
use Rattle.gq_fragments.specs.OperationFaults.{IsOperationFault}
use Rattle.gq_by_file.specs.Closed.RestsOnNames.{rests_on_names}
use Rattle.gq_by_file.proofs.ByNamesLemmas.{of_operations}
use Rattle.gq_by_file.proofs.by_names.found_of_operations.Goals as goal

pub returns : goal.returns
returns c =
    let x = executable_view c.args.executable.now in
    of_operations x _ _ (subst (λ xs. AddsExactly (IsOperationFault x) xs c.add_operation_faults.new.faults.items) c.new-faults.ensures.items c.in_ok-add_operation_faults.ensures)
    (c.in_ok-named.ensures ∙ ap (λ (fs : List Fault). filter (λ (z : Fault). beq (rests_on_names z.code) true) fs) c.deref.ensures.value)
