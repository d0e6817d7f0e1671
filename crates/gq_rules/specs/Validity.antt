-- What a report is, and what a valid project is (section 5).
use Rattle.std.specs.Prelude.{◌≡◌, ◌↔◌, List, Contains}
use Rattle.std.specs.List.Sorted.{IsStrictlySortedBy}
use Rattle.gq_project.specs.declared.document.Doc.{Doc}
use Rattle.gq_fault.specs.declared.found.Found.{Found}
use Rattle.gq_fault.specs.declared.fault.Fault.{Fault}
use Rattle.gq_fault.specs.Order.{fault_cmp}
use Rattle.gq_fault.specs.Tells.{told}
use Rattle.gq_tree.specs.Readings.{ParsedOf}
use Rattle.gq_parse.specs.Parsed.{AreParsed}
use Rattle.gq_rules.specs.Faults.{IsFaultOf}

-- All that is told of the documents, in the order of keys, places and codes, each place and code once.
pub record IsReportOf (documents : List Doc) (found : List Found) : Type 0 where
  pub readings : List ParsedOf
  pub are_readings : AreParsed documents readings
  pub faults : List Fault
  pub sorted : IsStrictlySortedBy fault_cmp faults
  pub exact : (fault : Fault) → Contains faults fault ↔ IsFaultOf readings fault
  pub are_told : found ≡ told documents faults

-- Nothing is told of the documents.
pub record IsValid (documents : List Doc) : Type 0 where
  pub readings : List ParsedOf
  pub are_readings : AreParsed documents readings
  pub none : (fault : Fault) → IsFaultOf readings fault → ⊥

-- Something is told of them.
pub record IsInvalid (documents : List Doc) : Type 0 where
  pub readings : List ParsedOf
  pub are_readings : AreParsed documents readings
  pub some : (fault : Fault) × IsFaultOf readings fault
