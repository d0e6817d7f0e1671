use Rattle.std.proofs.lemmas.Result.{on_ok_weaker}
use Rattle.gq_fault.proofs.PutLemmas.{puts_list}
use Rattle.gq_document.specs.Executable.{executable_view}
use Rattle.gq_fragments.specs.OperationFaults.{IsOperationFault}
use Rattle.gq_fragments.specs.Helping.OperationPlaces.{operation_faults}
use Rattle.gq_fragments.proofs.OperationLemmas.{operation_faults_are}
use Rattle.gq_fragments.proofs.operation_faults.add_operation_faults.Goals as goal

pub returns : goal.returns
returns c =
    let x = executable_view c.args.executable.now in
    on_ok_weaker c.add_each_rule.result
    (λ is. puts_list (IsOperationFault x) c.args.faults.now.items c.add_each_rule.new.faults.items (operation_faults x) is (operation_faults_are x))
    c.add_each_rule.ensures
