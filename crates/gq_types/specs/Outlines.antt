-- Definitions of the type system without their places and what types say of fields. Two type systems are equal but for these where these are the same.
use Rattle.std.specs.Prelude.{◌≡◌, ℕ, Bool, true, false, List, [], None, map, slice_get}
use Rattle.std.specs.Option.{option_map, option_map_or}
use Rattle.gq_text.specs.declared.place.Span.{Span}
use Rattle.gq_tree.specs.Plain.{BodyOf, scalar_type, object_type, interface_type, union_type, enum_type, input_type, TypeSystemOf, schema, type_definition, directive_definition}
use Rattle.gq_types.specs.Entries.{EntryOf}
use Rattle.gq_types.specs.ErasedEntries.{erase_entry}

-- an object type or an interface without its fields (sections 3.6 and 3.7); any other type as it is
abbrev pub body_outline : BodyOf (Unit {0}) → BodyOf (Unit {0})
body_outline scalar_type = scalar_type
body_outline (object_type interfaces fields) = object_type interfaces []
body_outline (interface_type interfaces fields) = interface_type interfaces []
body_outline (union_type members) = union_type members
body_outline (enum_type values) = enum_type values
body_outline (input_type fields) = input_type fields

-- the definition or extension of a type without its description and these fields
abbrev pub definition_outline : TypeSystemOf (Unit {0}) → TypeSystemOf (Unit {0})
definition_outline (schema extends description directives roots place) = schema extends description directives roots place
definition_outline (type_definition extends description name directives body place) = type_definition extends None name directives (body_outline body) place
definition_outline (directive_definition description name arguments repeatable locations place) = directive_definition description name arguments repeatable locations place

abbrev pub outline : EntryOf → TypeSystemOf (Unit {0})
outline e = definition_outline (erase_entry e)

-- the definition of a type, and no extension
abbrev pub defines_type : TypeSystemOf Span → Bool
defines_type (schema extends description directives roots place) = false
defines_type (type_definition true description name directives body place) = false
defines_type (type_definition false description name directives body place) = true
defines_type (directive_definition description name arguments repeatable locations place) = false

-- Definitions and extensions of two type systems: each is equal to the one of its number but for places and documents, and the one of that number, which defines a
-- type, but for its description and fields, too.
pub record DiffersAt (number : ℕ) (es us : List EntryOf) : Type 0 where
  pub outlines : map outline es ≡ map outline us
  pub others : (k : ℕ) → (k ≡ number → ⊥) → option_map erase_entry (slice_get es k) ≡ option_map erase_entry (slice_get us k)
  pub defines : option_map_or (λ e. defines_type e.definition) (slice_get es number) false ≡ true
