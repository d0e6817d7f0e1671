-- What is told of documents, in order and each once.
use Rattle.std.specs.Prelude.{◌↔◌, List, Contains}
use Rattle.std.specs.List.Sorted.{IsStrictlySortedBy}
use Rattle.gq_project.specs.declared.document.Doc.{Doc}
use Rattle.gq_fault.specs.declared.fault.Fault.{Fault}
use Rattle.gq_fault.specs.Order.{fault_cmp}
use Rattle.gq_tree.specs.Readings.{ParsedOf}
use Rattle.gq_parse.specs.Parsed.{AreParsed}
use Rattle.gq_rules.specs.Faults.{IsFaultOf}

pub record AreFaultsOf (documents : List Doc) (faults : List Fault) : Type 0 where
  pub readings : List ParsedOf
  pub are_readings : AreParsed documents readings
  pub sorted : IsStrictlySortedBy fault_cmp faults
  pub exact : (fault : Fault) → Contains faults fault ↔ IsFaultOf readings fault
