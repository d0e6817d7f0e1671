-- All that is told of a project. Where a text has no tree, a document is mixed, or something is wrong with the type
-- system, that alone is told.
use Rattle.std.specs.Prelude.{List}
use Rattle.gq_fault.specs.declared.fault.Fault.{Fault}
use Rattle.gq_tree.specs.Readings.{ParsedOf}
use Rattle.gq_type_system.specs.SchemaFaults.{IsSchemaFault}
use Rattle.gq_rules.specs.Project.{type_system_of, executable_of}
use Rattle.gq_rules.specs.Unread.{IsUnread}
pub use Rattle.gq_known.specs.ExecutableDefinitions.{is_executable, first_of_type_system, IsMixed}
use Rattle.gq_rules.specs.RuleFaults.{IsRuleFault}

-- what is told whatever else is wrong
pub data IsToldFirst (readings : List ParsedOf) (fault : Fault) : Type 0 where
  unread : IsUnread readings fault → IsToldFirst readings fault
  mixed : IsMixed readings fault → IsToldFirst readings fault
  type_system : IsSchemaFault (type_system_of readings) fault → IsToldFirst readings fault

pub data IsFaultOf (readings : List ParsedOf) (fault : Fault) : Type 0 where
  first : IsToldFirst readings fault → IsFaultOf readings fault
  rule : ((other : Fault) → IsToldFirst readings other → ⊥) → IsRuleFault (executable_of readings) fault → IsFaultOf readings fault
