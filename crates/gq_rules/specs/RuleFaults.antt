-- What is wrong with executable definitions: each fault that a rule of section 5 demands.
use Rattle.gq_fault.specs.declared.fault.Fault.{Fault}
use Rattle.gq_document.specs.Executable.{ExecutableOf}
use Rattle.gq_fragments.specs.OperationFaults.{IsOperationFault}
use Rattle.gq_fragments.specs.FragmentFaults.{IsFragmentFault}
use Rattle.gq_fields.specs.FieldFaults.{IsFieldFault}
use Rattle.gq_spreads.specs.SpreadFaults.{IsSpreadFault}
use Rattle.gq_variables.specs.VariableFaults.{IsVariableFault}
use Rattle.gq_merging.specs.FieldsMerge.{IsMergingFault}

pub data IsRuleFault (x : ExecutableOf) (fault : Fault) : Type 0 where
  -- section 5.2
  of_operations : IsOperationFault x fault → IsRuleFault x fault
  -- sections 5.3.1, 5.3.3, 5.4, 5.6 and 5.7
  of_fields : IsFieldFault x fault → IsRuleFault x fault
  -- sections 5.5.1.1 to 5.5.1.3 and 5.5.2.3
  of_fragments : IsFragmentFault x fault → IsRuleFault x fault
  -- sections 5.5.1.4, 5.5.2.1 and 5.5.2.2
  of_spreads : IsSpreadFault x fault → IsRuleFault x fault
  -- section 5.8
  of_variables : IsVariableFault x fault → IsRuleFault x fault
  -- section 5.3.2
  of_merging : IsMergingFault x fault → IsRuleFault x fault
