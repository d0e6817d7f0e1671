-- All rules of type systems that are equal but for their places, or also but for the numbers of their documents.
use Rattle.std.proofs.Common.{◌≡◌, ℕ, List, map, ap}
use Rattle.gq_fault.specs.declared.fault.Fault.{Fault}
use Rattle.gq_types.specs.Entries.{EntryOf}
use Rattle.gq_types.specs.ErasedEntries.{erase_entry}
use Rattle.gq_type_system.specs.SchemaFaults.{IsSchemaFault}
use Rattle.gq_type_system.specs.SchemaFaults as rule
use Rattle.gq_laws.specs.Placing.Types.{PlacesOfTypesDoNotMatterToTypes, DocumentsOfTypesDoNotMatterToTypes}
use Rattle.gq_types.proofs.Placing.Lists.{weaken}
use Rattle.gq_laws.proofs.Placing.Judged.{erase_marked, HasAlike}
use Rattle.gq_laws.proofs.Placing.TypeNamesAlike.{defined_twice_too, bad_extension_too, reserved_name_too, unknown_type_too, wrong_kind_too}
use Rattle.gq_laws.proofs.Placing.TypePartsAlike.{empty_type_too, repeated_part_too, repeated_argument_too, repeated_root_too, no_object_too, shared_root_too, no_query_root_too}
use Rattle.gq_laws.proofs.Placing.TypeGraphsAlike.{bad_implementation_too, endless_input_too}
use Rattle.gq_laws.proofs.Placing.TypeDirectivesAlike.{bad_directive_or_default_too}

-- one rule of them
by_rule : {M : Type 0} (mark : ℕ → M) (us : List EntryOf) (f : Fault) (IsFault : Fault → Type 0) → ((g : Fault) → IsFault g → IsSchemaFault us g) → HasAlike mark IsFault f →
    HasAlike mark (IsSchemaFault us) f
by_rule mark us f IsFault to h = (h.0, to h.0 h.1, h.2, h.3)

types_too : {M : Type 0} (mark : ℕ → M) (es us : List EntryOf) → map (erase_marked mark) es ≡ map (erase_marked mark) us → (f : Fault) → IsSchemaFault es f → HasAlike mark (IsSchemaFault us) f
types_too mark es us same f (rule.defined_twice h) = by_rule mark us f _ (λ g k. rule.defined_twice k) (defined_twice_too mark es us same f h)
types_too mark es us same f (rule.bad_extension h) = by_rule mark us f _ (λ g k. rule.bad_extension k) (bad_extension_too mark es us same f h)
types_too mark es us same f (rule.reserved_name h) = by_rule mark us f _ (λ g k. rule.reserved_name k) (reserved_name_too mark es us same f h)
types_too mark es us same f (rule.unknown_type h) = by_rule mark us f _ (λ g k. rule.unknown_type k) (unknown_type_too mark es us same f h)
types_too mark es us same f (rule.wrong_kind h) = by_rule mark us f _ (λ g k. rule.wrong_kind k) (wrong_kind_too mark es us same f h)
types_too mark es us same f (rule.repeated_root h) = by_rule mark us f _ (λ g k. rule.repeated_root k) (repeated_root_too mark es us same f h)
types_too mark es us same f (rule.no_object h) = by_rule mark us f _ (λ g k. rule.no_object k) (no_object_too mark es us same f h)
types_too mark es us same f (rule.shared_root h) = by_rule mark us f _ (λ g k. rule.shared_root k) (shared_root_too mark es us same f h)
types_too mark es us same f (rule.empty_type h) = by_rule mark us f _ (λ g k. rule.empty_type k) (empty_type_too mark es us same f h)
types_too mark es us same f (rule.repeated_part h) = by_rule mark us f _ (λ g k. rule.repeated_part k) (repeated_part_too mark es us same f h)
types_too mark es us same f (rule.repeated_argument h) = by_rule mark us f _ (λ g k. rule.repeated_argument k) (repeated_argument_too mark es us same f h)
types_too mark es us same f (rule.bad_implementation h) = by_rule mark us f _ (λ g k. rule.bad_implementation k) (bad_implementation_too mark es us same f h)
types_too mark es us same f (rule.endless_input h) = by_rule mark us f _ (λ g k. rule.endless_input k) (endless_input_too mark es us same f h)
types_too mark es us same f (rule.no_query_root h) = by_rule mark us f _ (λ g k. rule.no_query_root k) (no_query_root_too mark es us same f h)
types_too mark es us same f (rule.bad_directive_or_default h) = by_rule mark us f _ (λ g k. rule.bad_directive_or_default k) (bad_directive_or_default_too mark es us same f h)

-- where the numbers of the documents are seen
pub places_of_types_do_not_matter_to_types : PlacesOfTypesDoNotMatterToTypes
places_of_types_do_not_matter_to_types es us same f h = types_too (λ n. n) es us same f h

-- where they are not
abbrev unseen : ℕ → Unit {0}
unseen file = tt

pub documents_of_types_do_not_matter_to_types : DocumentsOfTypesDoNotMatterToTypes
documents_of_types_do_not_matter_to_types es us same f h =
    let marked : map (erase_marked unseen) es ≡ map (erase_marked unseen) us = weaken erase_entry (erase_marked unseen) (λ a b e. ap (λ z. (tt, z)) e) es us same in
    let g = types_too unseen es us marked f h in
    (g.0, g.1, g.3)
