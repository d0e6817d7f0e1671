-- A project of which the operations and fragments break no rule (section 5).
use Rattle.gq_document.specs.Executable.{ExecutableOf}
use Rattle.gq_fields.specs.FieldFaults.{IsFieldFault}
use Rattle.gq_fragments.specs.OperationFaults.{IsOperationFault}
use Rattle.gq_fragments.specs.FragmentFaults.{IsFragmentFault}
use Rattle.gq_spreads.specs.SpreadFaults.{IsSpreadFault}
use Rattle.gq_variables.specs.VariableFaults.{IsVariableFault}
use Rattle.gq_merging.specs.FieldsMerge.{IsMergingFault}
use Rattle.gq_laws.specs.Placing.Types.{IsFaultless}

-- by the kinds of rules
pub record AreFaultless (x : ExecutableOf) : Type 0 where
  pub fields : IsFaultless IsFieldFault x
  pub operations : IsFaultless IsOperationFault x
  pub fragments : IsFaultless IsFragmentFault x
  pub spreads : IsFaultless IsSpreadFault x
  pub variables : IsFaultless IsVariableFault x
  pub merging : IsFaultless IsMergingFault x
