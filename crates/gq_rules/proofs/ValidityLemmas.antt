-- What an empty list of faults, and one that is not empty, say of a project.
use Rattle.std.proofs.Common.{◌≡◌, ◌↔◌, List, [], ◌∷◌, Contains, refl, subst}
use Rattle.gq_names.proofs.RepeatLemmas.{contains_none, contains_first}
use Rattle.gq_project.specs.declared.document.Doc.{Doc}
use Rattle.gq_fault.specs.declared.fault.Fault.{Fault}
use Rattle.gq_tree.specs.Readings.{ParsedOf}
use Rattle.gq_parse.specs.Parsed.{AreParsed}
use Rattle.gq_rules.specs.Faults.{IsFaultOf}
use Rattle.gq_rules.specs.Validity.{IsValid, IsInvalid}

module _ (documents : List Doc) (readings : List ParsedOf) (are : AreParsed documents readings) where
  pub valid : (faults : List Fault) → ((fault : Fault) → Contains faults fault ↔ IsFaultOf readings fault) → faults ≡ [] → IsValid documents
  valid faults exact e = record { readings = readings; are_readings = are; none = λ fault d. contains_none fault (subst (λ xs. Contains xs fault) e ((exact fault).1 d)) }

  pub invalid : (faults : List Fault) → ((fault : Fault) → Contains faults fault ↔ IsFaultOf readings fault) → (faults ≡ [] → ⊥) → IsInvalid documents
  invalid [] exact n = absurd (n refl)
  invalid (fault ∷ faults) exact n = record { readings = readings; are_readings = are; some = (fault, (exact fault).0 (contains_first fault faults fault refl)) }
