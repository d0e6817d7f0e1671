-- What the documents of a project say of its type system.
use Rattle.std.specs.Prelude.{◌≡◌, ◌↔◌, ◌++◌, List, Contains}
use Rattle.std.specs.List.Sorted.{IsStrictlySortedBy}
use Rattle.gq_project.specs.declared.document.Doc.{Doc}
use Rattle.gq_fault.specs.declared.found.Found.{Found}
use Rattle.gq_fault.specs.declared.fault.Fault.{Fault}
use Rattle.gq_fault.specs.Order.{fault_cmp}
use Rattle.gq_fault.specs.Tells.{told}
use Rattle.gq_tree.specs.Readings.{ParsedOf}
use Rattle.gq_parse.specs.Parsed.{AreParsed}
use Rattle.gq_types.specs.Entries.{EntryOf}
use Rattle.gq_types.specs.BuiltIn.{built_in}
use Rattle.gq_document.specs.Definitions.{entries_of}
use Rattle.gq_type_system.specs.SchemaFaults.{IsSchemaFault}

-- The type system of documents: what is built in, and then the definitions and extensions of those that have a tree, in
-- the order of documents and places.
pub record IsTypeSystemOf (documents : List Doc) (es : List EntryOf) : Type 0 where
  pub readings : List ParsedOf
  pub are_readings : AreParsed documents readings
  pub is : es ≡ built_in ++ entries_of readings

-- no rule of section 3 is broken
abbrev pub HasNoFault : List EntryOf → Type 0
HasNoFault es = (fault : Fault) → IsSchemaFault es fault → ⊥

-- All that is wrong with it, in the order of documents, places and codes, each place and code once. What stands in no
-- document is not told: without documents that is the missing query root.
pub record AreFaultsOf (documents : List Doc) (es : List EntryOf) (found : List Found) : Type 0 where
  pub faults : List Fault
  pub sorted : IsStrictlySortedBy fault_cmp faults
  pub exact : (fault : Fault) → Contains faults fault ↔ IsSchemaFault es fault
  pub are_told : found ≡ told documents faults

-- The documents have a type system, something is wrong with it, and that is what is found.
pub record IsFaulty (documents : List Doc) (found : List Found) : Type 0 where
  pub entries : List EntryOf
  pub of_documents : IsTypeSystemOf documents entries
  pub are_faults : AreFaultsOf documents entries found
  pub some : (fault : Fault) × IsSchemaFault entries fault
