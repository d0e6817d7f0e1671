-- Type systems that are equal but for their places and for fields of some object types.
use Rattle.std.specs.Prelude.{◌≡◌, ℕ, ◌+◌, Bool, true, false, List, [], ◌∷◌, All, map}
use Rattle.gq_text.specs.declared.place.Span.{Span}
use Rattle.gq_fault.specs.declared.fault.Fault.{Fault}
use Rattle.gq_tree.specs.Plain.{BodyOf, scalar_type, object_type, interface_type, union_type, enum_type, input_type, TypeSystemOf, schema, type_definition, directive_definition}
use Rattle.gq_types.specs.Entries.{Text, EntryOf}
use Rattle.gq_types.specs.ErasedEntries.{erase_entry}
use Rattle.gq_type_system.specs.FaultsAt.{IsFaultlessAt}
use Rattle.gq_type_system.specs.SchemaFaults.{IsSchemaFault}
use Rattle.gq_laws.specs.Placing.OtherFields.{erase_without}

-- an object type (section 3.6)
abbrev pub is_object_body : BodyOf Span → Bool
is_object_body scalar_type = false
is_object_body (object_type interfaces fields) = true
is_object_body (interface_type interfaces fields) = false
is_object_body (union_type members) = false
is_object_body (enum_type values) = false
is_object_body (input_type fields) = false

-- the definition of one, and no extension
abbrev pub defines_object : TypeSystemOf Span → Bool
defines_object (schema extends description directives roots place) = false
defines_object (type_definition true description name directives body place) = false
defines_object (type_definition false description name directives body place) = is_object_body body
defines_object (directive_definition description name arguments repeatable locations place) = false

-- Definitions and extensions of two type systems, the first of which have that number, in pairs: at those numbers, in order, are two definitions of object
-- types, and all others are equal but for places and documents.
pub data DifferInObjects : ℕ → List EntryOf → List EntryOf → List ℕ → Type 0 where
  nowhere : {number : ℕ} → DifferInObjects number [] [] []
  not_here : {number : ℕ} {e u : EntryOf} {es us : List EntryOf} {numbers : List ℕ} → erase_entry e ≡ erase_entry u →
      DifferInObjects (number + 1) es us numbers → DifferInObjects number (e ∷ es) (u ∷ us) numbers
  here : {number : ℕ} {e u : EntryOf} {es us : List EntryOf} {numbers : List ℕ} → defines_object e.definition ≡ true → defines_object u.definition ≡ true →
      DifferInObjects (number + 1) es us numbers → DifferInObjects number (e ∷ es) (u ∷ us) (number ∷ numbers)

-- Where a type system breaks no rule of section 3, another that differs from it in fields of some names alone, and in object types alone, breaks none either, if
-- it breaks none at these types.
abbrev pub OtherObjectsKeepTypes : Type 0
OtherObjectsKeepTypes = (names : List Text) (es us : List EntryOf) (numbers : List ℕ) → map (erase_without names) es ≡ map (erase_without names) us → DifferInObjects 0 es us numbers →
    ((f : Fault) → IsSchemaFault es f → ⊥) → All (IsFaultlessAt us) numbers → (f : Fault) → IsSchemaFault us f → ⊥
