-- What is told of definitions that stand twice, in the order of the entries, computed.
use Rattle.std.specs.Prelude.{ℕ, Bool, true, false, List, [], ◌∷◌, Option, if◌then◌else◌, flat_map, nat_lt}
use Rattle.std.specs.Option.{option_map_or}
use Rattle.gq_text.specs.declared.place.Span.{Span}
use Rattle.gq_fault.specs.declared.code.Code.TheVariants.{DefinedTwice}
use Rattle.gq_fault.specs.declared.fault.Fault.{Fault}
use Rattle.gq_tree.specs.Plain.{TypeSystemOf, schema, type_definition, directive_definition}
use Rattle.gq_types.specs.Entries.{EntryOf, Numbered}
use Rattle.gq_types.specs.Joined.{judged, type_number, directive_number, schema_number}
use Rattle.gq_fault.specs.FaultPlaces.{fault_over}
use Rattle.gq_type_system.specs.DefinedTwice.{definition_place}

-- whether the first of its name stands before that number
abbrev pub is_before : Option ℕ → ℕ → Bool
is_before first number = option_map_or (λ k. nat_lt k number) first false

abbrev pub is_defined_before : List EntryOf → ℕ → TypeSystemOf Span → Bool
is_defined_before es number (schema true description directives roots place) = false
is_defined_before es number (schema false description directives roots place) = nat_lt (schema_number es) number
is_defined_before es number (type_definition true description name directives body place) = false
is_defined_before es number (type_definition false description name directives body place) = is_before (type_number es name.text) number
is_defined_before es number (directive_definition description name arguments repeatable locations place) = is_before (directive_number es name.text) number

abbrev pub defined_twice : List EntryOf → ℕ → EntryOf → List Fault
defined_twice es number e = if is_defined_before es number e.definition then fault_over e.file DefinedTwice (definition_place e.definition) ∷ [] else []

abbrev pub defined_twice_at : List EntryOf → Numbered → List Fault
defined_twice_at es n = defined_twice es n.number n.entry

abbrev pub all_defined_twice : List EntryOf → List Fault
all_defined_twice es = flat_map (defined_twice_at es) (judged es)
