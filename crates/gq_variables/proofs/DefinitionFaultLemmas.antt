-- What is put for the definitions of variables is what is wrong with these.
use Rattle.std.proofs.Common.{◌↔◌, [], Contains, flat_map, inl, inr}
use Rattle.std.proofs.lemmas.List.Elements.{Contains-append_left, Contains-append_right, Contains-append_cases}
use Rattle.gq_fault.specs.declared.fault.Fault.{Fault}
use Rattle.gq_types.proofs.Gathered.{from_flat, to_flat}
use Rattle.gq_document.specs.Definitions.{OperationOf}
use Rattle.gq_document.specs.Executable.{ExecutableOf}
use Rattle.gq_variables.specs.VariableDefinitionFaults.{IsDefinitionFaultOfOperation, IsVariableDefinitionFault}
use Rattle.gq_variables.specs.VariableDefinitionFaults as rule
use Rattle.gq_variables.specs.Helping.VariablePlaces.{repeated_variables, not_unique, not_of_input_type, definition_faults_of}
use Rattle.gq_variables.proofs.RuleLemmas.{not_unique_are, not_of_input_type_are}

module _ (x : ExecutableOf) (fault : Fault) where
  from_one : (o : OperationOf) → Contains (definition_faults_of x.entries o) fault → IsDefinitionFaultOfOperation x o fault
  from_one o c = elim (Contains-append_cases (not_unique o.file (repeated_variables [] o.variables)) (not_of_input_type x.entries o.file o.variables) fault c) [
    | inl again ↦ rule.not_unique ((not_unique_are o fault).0 again)
    | inr wrong ↦ rule.not_of_input_type ((not_of_input_type_are x.entries o fault).0 wrong)
  ]

  to_one : (o : OperationOf) → IsDefinitionFaultOfOperation x o fault → Contains (definition_faults_of x.entries o) fault
  to_one o (rule.not_unique w) =
      Contains-append_left (not_unique o.file (repeated_variables [] o.variables)) (not_of_input_type x.entries o.file o.variables) fault ((not_unique_are o fault).1 w)
  to_one o (rule.not_of_input_type w) =
      Contains-append_right (not_unique o.file (repeated_variables [] o.variables)) (not_of_input_type x.entries o.file o.variables) fault
      ((not_of_input_type_are x.entries o fault).1 w)

  -- those of all operations
  pub definition_faults_are : Contains (flat_map (definition_faults_of x.entries) x.operations) fault ↔ IsVariableDefinitionFault x fault
  definition_faults_are = (
    λ c. let one = from_flat (definition_faults_of x.entries) x.operations fault c in record { operation = one.0; stands = one.1; fault = from_one one.0 one.2 },
    λ w. to_flat (definition_faults_of x.entries) x.operations w.operation fault w.stands (to_one w.operation w.fault),
  )
