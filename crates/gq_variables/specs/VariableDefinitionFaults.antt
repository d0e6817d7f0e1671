-- What is wrong with the definitions of variables, whatever uses them: each fault that a rule demands, one case a rule
-- (sections 5.8.1 and 5.8.2).
use Rattle.std.specs.Prelude.{Contains}
use Rattle.gq_fault.specs.declared.fault.Fault.{Fault}
use Rattle.gq_document.specs.Definitions.{OperationOf}
use Rattle.gq_document.specs.Executable.{ExecutableOf}
use Rattle.gq_variables.specs.VariableUniqueness.{IsNotUnique}
use Rattle.gq_variables.specs.VariablesAreInputTypes.{IsNotOfInputType}

-- in an operation
pub data IsDefinitionFaultOfOperation (x : ExecutableOf) (o : OperationOf) (item : Fault) : Type 0 where
  not_unique : IsNotUnique o item → IsDefinitionFaultOfOperation x o item
  not_of_input_type : IsNotOfInputType x.entries o item → IsDefinitionFaultOfOperation x o item

-- in some operation
pub record IsVariableDefinitionFault (x : ExecutableOf) (item : Fault) : Type 0 where
  pub operation : OperationOf
  pub stands : Contains x.operations operation
  pub fault : IsDefinitionFaultOfOperation x operation item
