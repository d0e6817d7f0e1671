-- At which definition or extension a rule of a type system is broken (section 3).
use Rattle.std.specs.Prelude.{◌≡◌, ℕ, List, Option, Some, None}
use Rattle.gq_fault.specs.declared.fault.Fault.{Fault}
use Rattle.gq_types.specs.Entries.{EntryOf}
use Rattle.gq_types.specs.Joined.{owner}
use Rattle.gq_type_system.specs.DirectivesAndDefaults.{IsBadDirectiveOrDefault, in_site, in_entry, in_default}
use Rattle.gq_type_system.specs.SchemaFaults.{IsSchemaFault, defined_twice, bad_extension, reserved_name, unknown_type, wrong_kind, repeated_root, no_object, shared_root, empty_type, repeated_part, repeated_argument, bad_implementation, endless_input, no_query_root, bad_directive_or_default}

-- A directive on a definition or extension itself counts with what belongs to the same number.
abbrev pub directive_found_at : {es : List EntryOf} {fault : Fault} → IsBadDirectiveOrDefault es fault → ℕ
directive_found_at (in_site {n = n} judged site broken is) = n.number
directive_found_at {es = es} (in_entry before n after judged joined own broken is) = owner es n
directive_found_at (in_default {n = n} judged input default broken is) = n.number

-- The number of what breaks the rule, alone or with what belongs to it; none, where it is broken by several: roots, input objects that are endless, and a
-- query root that is missing.
abbrev pub found_at : {es : List EntryOf} {fault : Fault} → IsSchemaFault es fault → Option ℕ
found_at (defined_twice h) = Some h.entry.number
found_at (bad_extension h) = Some h.entry.number
found_at (reserved_name h) = Some h.entry.number
found_at (unknown_type h) = Some h.entry.number
found_at (wrong_kind h) = Some h.entry.number
found_at (repeated_root h) = None
found_at (no_object h) = None
found_at (shared_root h) = None
found_at (empty_type h) = Some h.entry.number
found_at (repeated_part h) = Some h.number
found_at (repeated_argument h) = Some h.entry.number
found_at (bad_implementation h) = Some h.at.number
found_at (endless_input h) = None
found_at (no_query_root h) = None
found_at (bad_directive_or_default h) = Some (directive_found_at h)

-- no rule is broken at that number
abbrev pub IsFaultlessAt : List EntryOf → ℕ → Type 0
IsFaultlessAt es number = (fault : Fault) (broken : IsSchemaFault es fault) → found_at broken ≡ Some number → ⊥
