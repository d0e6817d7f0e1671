-- What an empty list of faults, and one that is not empty, say of a type system.
use Rattle.std.proofs.Common.{◌≡◌, ◌↔◌, List, [], ◌∷◌, ◌++◌, Contains, refl, subst}
use Rattle.std.specs.List.Sorted.{IsStrictlySortedBy}
use Rattle.gq_project.specs.declared.document.Doc.{Doc}
use Rattle.gq_fault.specs.declared.found.Found.{Found}
use Rattle.gq_fault.specs.declared.fault.Fault.{Fault}
use Rattle.gq_fault.specs.Order.{fault_cmp}
use Rattle.gq_fault.specs.Tells.{told}
use Rattle.gq_names.proofs.RepeatLemmas.{contains_none, contains_first}
use Rattle.gq_tree.specs.Readings.{ParsedOf}
use Rattle.gq_parse.specs.Parsed.{AreParsed}
use Rattle.gq_types.specs.Entries.{EntryOf}
use Rattle.gq_types.specs.BuiltIn.{built_in}
use Rattle.gq_document.specs.Definitions.{entries_of}
use Rattle.gq_type_system.specs.SchemaFaults.{IsSchemaFault}
use Rattle.gq_schema.specs.SchemaOf.{IsTypeSystemOf, HasNoFault, AreFaultsOf, IsFaulty}

pub none_found : (es : List EntryOf) (items : List Fault) → ((item : Fault) → Contains items item ↔ IsSchemaFault es item) → items ≡ [] → HasNoFault es
none_found es items exact e item fault = contains_none item (subst (λ xs. Contains xs item) e ((exact item).1 fault))

some_found : (es : List EntryOf) (items : List Fault) → ((item : Fault) → Contains items item ↔ IsSchemaFault es item) → (items ≡ [] → ⊥) → (item : Fault) × IsSchemaFault es item
some_found es [] exact n = absurd (n refl)
some_found es (item ∷ items) exact n = (item, (exact item).0 (contains_first item items item refl))

pub faults_found : (documents : List Doc) (readings : List ParsedOf) (es : List EntryOf) (items : List Fault) (found : List Found) →
    AreParsed documents readings → es ≡ built_in ++ entries_of readings → IsStrictlySortedBy fault_cmp items →
    ((item : Fault) → Contains items item ↔ IsSchemaFault es item) → found ≡ told documents items → (items ≡ [] → ⊥) → IsFaulty documents found
faults_found documents readings es items found are is sorted exact e n = record {
  entries = es;
  of_documents = record { readings = readings; are_readings = are; is = is };
  are_faults = record { faults = items; sorted = sorted; exact = exact; are_told = e };
  some = some_found es items exact n;
}
