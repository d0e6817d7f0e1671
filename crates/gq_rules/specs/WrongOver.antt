-- What is told where no text has a fault: of a type system or, where nothing is wrong with it, of the operations and fragments over it.
use Rattle.gq_fault.specs.declared.fault.Fault.{Fault}
use Rattle.gq_document.specs.Executable.{ExecutableOf}
use Rattle.gq_type_system.specs.SchemaFaults.{IsSchemaFault}
use Rattle.gq_rules.specs.RuleFaults.{IsRuleFault}

pub data IsWrongOver (x : ExecutableOf) (fault : Fault) : Type 0 where
  type_system : IsSchemaFault x.entries fault → IsWrongOver x fault
  rule : ((other : Fault) → IsSchemaFault x.entries other → ⊥) → IsRuleFault x fault → IsWrongOver x fault
