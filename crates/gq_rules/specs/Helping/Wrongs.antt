-- What is put behind faults for a type system and the definitions over it, computed: the faults of the type system
-- and, where nothing is told by then, those of the rules.
use Rattle.std.specs.Prelude.{◌≡◌, ◌↔◌, ◌++◌, List, [], Contains}
use Rattle.gq_fault.specs.declared.fault.Fault.{Fault}
use Rattle.gq_fault.specs.Adds.{AddsExactly}
use Rattle.gq_document.specs.Executable.{ExecutableOf}
use Rattle.gq_type_system.specs.SchemaFaults.{IsSchemaFault}
use Rattle.gq_rules.specs.RuleFaults.{IsRuleFault}
use Rattle.gq_rules.specs.declared.wrong_by_threads.Wrong.{Wrong}
use Rattle.gq_rules.specs.declared.wrong_by_threads.Wrong.TheVariants as wrong

pub record PutsWrong (x : ExecutableOf) (old new : List Fault) : Type 0 where
  pub schema : List Fault
  pub exact : (fault : Fault) → Contains schema fault ↔ IsSchemaFault x.entries fault
  pub alone : (old ++ schema ≡ [] → ⊥) → new ≡ old ++ schema
  pub rules : old ++ schema ≡ [] → AddsExactly (IsRuleFault x) (old ++ schema) new

-- the faults of the type system, if there are any; else what some of the rules tell
abbrev pub IsWrong : (ExecutableOf → Fault → Type 0) → ExecutableOf → Wrong → Type 0
IsWrong Is x (wrong.TypeSystem schema) = (schema.items ≡ [] → ⊥) × ((fault : Fault) → Contains schema.items fault ↔ IsSchemaFault x.entries fault)
IsWrong Is x (wrong.Rules others) = ((fault : Fault) → IsSchemaFault x.entries fault → ⊥) × AddsExactly (Is x) [] others.items
