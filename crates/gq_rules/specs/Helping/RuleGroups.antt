-- What the rules tell by groups, each of which a thread looks for, computed.
use Rattle.std.specs.Prelude.{◌⊎◌}
use Rattle.gq_fault.specs.declared.fault.Fault.{Fault}
use Rattle.gq_document.specs.Executable.{ExecutableOf}
use Rattle.gq_fragments.specs.OperationFaults.{IsOperationFault}
use Rattle.gq_fragments.specs.FragmentFaults.{IsFragmentFault}
use Rattle.gq_fields.specs.FieldFaults.{IsFieldFault}
use Rattle.gq_merging.specs.FieldsMerge.{IsMergingFault}
use Rattle.gq_spreads.specs.SpreadFaults.{IsSpreadFault}
use Rattle.gq_variables.specs.VariableFaults.{IsVariableFault}

-- of operations and fragments as such
abbrev pub IsDefinitionFault : ExecutableOf → Fault → Type 0
IsDefinitionFault x fault = IsOperationFault x fault ⊎ IsFragmentFault x fault

-- of spreads and variables
abbrev pub IsReachFault : ExecutableOf → Fault → Type 0
IsReachFault x fault = IsSpreadFault x fault ⊎ IsVariableFault x fault

-- of operations and fragments as such, and of fields that do not merge
abbrev pub IsDefinitionOrMergingFault : ExecutableOf → Fault → Type 0
IsDefinitionOrMergingFault x fault = IsDefinitionFault x fault ⊎ IsMergingFault x fault

-- of fields each by itself, spreads and variables
abbrev pub IsOtherFault : ExecutableOf → Fault → Type 0
IsOtherFault x fault = IsFieldFault x fault ⊎ IsReachFault x fault

-- of all but of fields each by itself
abbrev pub IsAcrossGroup : ExecutableOf → Fault → Type 0
IsAcrossGroup x fault = IsDefinitionOrMergingFault x fault ⊎ IsReachFault x fault
