use Rattle.std.proofs.Common.{subst}
use Rattle.gq_document.specs.Executable.{executable_view}
use Rattle.gq_fault.specs.Adds.{AddsExactly}
use Rattle.gq_fault.proofs.PutLemmas.{puts_both}
use Rattle.gq_by_file.specs.Helping.Alone.{IsToldAlone}
use Rattle.gq_by_file.proofs.alone.told_alone.Goals as goal

pub returns : goal.returns
returns c =
    let x = executable_view c.args.executable.now in
    subst (λ xs. AddsExactly (IsToldAlone x) xs c.add_variable_definition_faults.new.faults.items) c.new-faults.ensures.items
    (puts_both _ _ _ _ _
    (puts_both _ _ _ _ _ (puts_both _ _ _ _ _ c.in_ok-add_operation_faults.ensures c.in_ok-add_condition_faults.ensures) c.in_ok-add_field_faults.ensures)
    c.in_ok-add_variable_definition_faults.ensures)
