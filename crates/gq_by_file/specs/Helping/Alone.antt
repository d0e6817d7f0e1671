-- What is told by the rules that can tell what rests on one file, computed.
use Rattle.std.specs.Prelude.{◌⊎◌}
use Rattle.gq_fault.specs.declared.fault.Fault.{Fault}
use Rattle.gq_document.specs.Executable.{ExecutableOf}
use Rattle.gq_fields.specs.FieldFaults.{IsFieldFault}
use Rattle.gq_fragments.specs.ConditionFaults.{IsConditionFault}
use Rattle.gq_fragments.specs.OperationFaults.{IsOperationFault}
use Rattle.gq_variables.specs.VariableDefinitionFaults.{IsVariableDefinitionFault}

-- of operations as such, of type conditions, of fields each by itself, and of the definitions of variables
abbrev pub IsToldAlone : ExecutableOf → Fault → Type 0
IsToldAlone x fault = ((IsOperationFault x fault ⊎ IsConditionFault x fault) ⊎ IsFieldFault x fault) ⊎ IsVariableDefinitionFault x fault
