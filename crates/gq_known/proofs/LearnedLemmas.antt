-- What a list of all faults says of a type system.
use Rattle.std.proofs.Common.{◌≡◌, ◌↔◌, List, [], ◌∷◌, Contains, refl, subst}
use Rattle.gq_fault.specs.declared.fault.Fault.{Fault}
use Rattle.gq_names.proofs.RepeatLemmas.{contains_none, contains_first}
use Rattle.gq_types.specs.Entries.{EntryOf}
use Rattle.gq_type_system.specs.SchemaFaults.{IsSchemaFault}
use Rattle.gq_schema.specs.SchemaOf.{HasNoFault}

-- where one is in it, a rule is broken
pub some_found : (es : List EntryOf) (items : List Fault) → ((item : Fault) → Contains items item ↔ IsSchemaFault es item) → (items ≡ [] → ⊥) → HasNoFault es → ⊥
some_found es [] exact some nothing = some refl
some_found es (item ∷ items) exact some nothing = nothing item ((exact item).0 (contains_first item items item refl))

pub none_found : (es : List EntryOf) (items : List Fault) → ((item : Fault) → Contains items item ↔ IsSchemaFault es item) → items ≡ [] → HasNoFault es
none_found es items exact e item fault = contains_none item (subst (λ xs. Contains xs item) e ((exact item).1 fault))
