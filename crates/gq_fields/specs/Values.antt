-- Values: the default value of a variable is of the variable's type, where that is known and an input type (section 5.6).
use Rattle.std.specs.Prelude.{◌≡◌, Some, Contains}
use Rattle.gq_text.specs.declared.place.Span.{Span}
use Rattle.gq_fault.specs.declared.fault.Fault.{Fault}
use Rattle.gq_tree.specs.Plain.{VariableOf, Val}
use Rattle.gq_document.specs.Definitions.{OperationOf}
use Rattle.gq_document.specs.Executable.{ExecutableOf}
use Rattle.gq_values.specs.Literals.{default_at}
use Rattle.gq_values.specs.LiteralFaults.{IsLiteralFault}

-- what is wrong with a default value, or with a literal in it
pub record HasWrongDefault (x : ExecutableOf) (item : Fault) : Type 0 where
  pub operation : OperationOf
  pub stands : Contains x.operations operation
  pub variable : VariableOf Span
  pub is_defined : Contains operation.variables variable
  pub default : Val Span
  pub has_default : variable.default ≡ Some default
  pub fault : IsLiteralFault x.entries operation.file (default_at x.entries variable.type_ref) default item
