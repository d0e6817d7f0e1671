-- The names of the parts of types (sections 3.6 to 3.10).
use Rattle.std.specs.Prelude.{ℕ, List, Option, Some, None, map}
use Rattle.gq_text.specs.declared.place.Span.{Span}
use Rattle.gq_tree.specs.Plain.{NameOf, BodyOf, scalar_type, object_type, interface_type, union_type, enum_type, input_type}
use Rattle.gq_type_system.specs.declared.parts.Part.{Part}
use Rattle.gq_type_system.specs.declared.parts.Part.TheVariants.{Fields, Interfaces, Members, Values, InputFields}
use Rattle.gq_types.specs.Entries.{EntryOf}
use Rattle.gq_types.specs.Joined.{In, fields_in_body, interfaces_in_body, members_in_body, values_in_body, inputs_in_body, parts_of}

abbrev pub names_of_part : Part → BodyOf Span → List (NameOf Span)
names_of_part Fields body = map (λ f. f.name) (fields_in_body body)
names_of_part Interfaces body = interfaces_in_body body
names_of_part Members body = members_in_body body
names_of_part Values body = map (λ v. v.name) (values_in_body body)
names_of_part InputFields body = map (λ i. i.name) (inputs_in_body body)

-- those of a type with its extensions, in order
abbrev pub part_names : Part → List EntryOf → ℕ → List (In (NameOf Span))
part_names part es number = parts_of (names_of_part part) es number

-- of which parts a type must have at least one
abbrev pub required_part : BodyOf Span → Option Part
required_part scalar_type = None
required_part (object_type interfaces fields) = Some Fields
required_part (interface_type interfaces fields) = Some Fields
required_part (union_type members) = Some Members
required_part (enum_type values) = Some Values
required_part (input_type fields) = Some InputFields
