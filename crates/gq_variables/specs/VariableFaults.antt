-- What is wrong with variables: each fault that a rule demands, one case a rule (section 5.8).
use Rattle.std.specs.Prelude.{Contains}
use Rattle.gq_fault.specs.declared.fault.Fault.{Fault}
use Rattle.gq_document.specs.Definitions.{OperationOf}
use Rattle.gq_document.specs.Executable.{ExecutableOf}
use Rattle.gq_variables.specs.VariableUniqueness.{IsNotUnique}
use Rattle.gq_variables.specs.VariablesAreInputTypes.{IsNotOfInputType}
use Rattle.gq_variables.specs.AllVariableUsesDefined.{IsNotDefined}
use Rattle.gq_variables.specs.AllVariablesUsed.{IsNotUsed}
use Rattle.gq_variables.specs.AllVariableUsagesAreAllowed.{IsNotAllowed}

-- in an operation and in the fragments that it reaches
pub data IsFaultOfOperation (x : ExecutableOf) (o : OperationOf) (item : Fault) : Type 0 where
  not_unique : IsNotUnique o item → IsFaultOfOperation x o item
  not_of_input_type : IsNotOfInputType x.entries o item → IsFaultOfOperation x o item
  not_defined : IsNotDefined x o item → IsFaultOfOperation x o item
  not_used : IsNotUsed x o item → IsFaultOfOperation x o item
  not_allowed : IsNotAllowed x o item → IsFaultOfOperation x o item

-- in some operation
pub record IsVariableFault (x : ExecutableOf) (item : Fault) : Type 0 where
  pub operation : OperationOf
  pub stands : Contains x.operations operation
  pub fault : IsFaultOfOperation x operation item
