use Rattle.std.proofs.Common.{flat_map}
use Rattle.std.proofs.lemmas.Result.{on_ok_weaker}
use Rattle.gq_fault.proofs.PutLemmas.{puts_list}
use Rattle.gq_document.specs.Executable.{executable_view}
use Rattle.gq_variables.specs.VariableDefinitionFaults.{IsVariableDefinitionFault}
use Rattle.gq_variables.specs.Helping.VariablePlaces.{definition_faults_of}
use Rattle.gq_variables.proofs.DefinitionFaultLemmas.{definition_faults_are}
use Rattle.gq_variables.proofs.definition_faults.add_variable_definition_faults.Goals as goal

pub returns : goal.returns
returns c =
    let x = executable_view c.args.executable.now in
    on_ok_weaker c.add_definition_faults_of_all.result
    (λ is. puts_list (IsVariableDefinitionFault x) c.args.faults.now.items c.add_definition_faults_of_all.new.faults.items
    (flat_map (definition_faults_of x.entries) x.operations) is (definition_faults_are x))
    c.add_definition_faults_of_all.ensures
