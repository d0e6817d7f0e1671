-- Further look-ups: of kinds, and in a type with its extensions that is given by the number of its definition.
use Rattle.std.specs.Prelude.{ℕ, Bool, true, false, List, [], Option, Some, None, nat_eq, map, filter, find, slice_get, ◌&&◌}
use Rattle.std.specs.Borrow.{Bor}
use Rattle.std.specs.Option.{option_map, option_map_or}
use Rattle.std.specs.List.{list_any}
use Rattle.std.specs.Str.{bytes_eq}
use Rattle.gq_text.specs.declared.place.Span.{Span}
use Rattle.gq_tree.specs.Plain.{FieldDefinitionOf, BodyOf, TypeSystemOf, scalar_type, object_type, interface_type, union_type, enum_type, input_type, schema, type_definition, directive_definition}
use Rattle.gq_types.specs.declared.entry.TypeKind.{TypeKind}
use Rattle.gq_types.specs.Entries.{Text, EntryOf, Numbered, numbered}
use Rattle.gq_types.specs.Joined.{type_number, kind_named, body_in, fields_of, interfaces_of}
use Rattle.gq_types.specs.Kinds.{same_kind}

-- whether the type of that name is of that kind
abbrev pub has_kind : List EntryOf → TypeKind → Text → Bool
has_kind es kind text = option_map_or (same_kind kind) (kind_named es text) false

-- the field of that name (section 3.6); of doubles the first is meant
abbrev pub field_in : List EntryOf → ℕ → Text → Option (FieldDefinitionOf Span)
field_in es number text = option_map (λ f. f.it) (find (λ f. bytes_eq text f.it.name.text) (fields_of es number))

-- whether it declares that it implements the interface of that name (sections 3.6 and 3.7)
abbrev pub declares_in : List EntryOf → ℕ → Text → Bool
declares_in es number text = list_any (λ i. bytes_eq text i.it.text) (interfaces_of es number)

-- the name of an object type, where it is defined
abbrev pub object_name : TypeSystemOf Span → Option Text
object_name (schema extends description directives roots place) = None
object_name (type_definition true description name directives body place) = None
object_name (type_definition false description name directives scalar_type place) = None
object_name (type_definition false description name directives (object_type interfaces fields) place) = Some name.text
object_name (type_definition false description name directives (interface_type interfaces fields) place) = None
object_name (type_definition false description name directives (union_type members) place) = None
object_name (type_definition false description name directives (enum_type values) place) = None
object_name (type_definition false description name directives (input_type fields) place) = None
object_name (directive_definition description name arguments repeatable locations place) = None

-- whether a type of that name is first defined by the entry with that number
abbrev pub is_first : List EntryOf → Text → ℕ → Bool
is_first es text number = option_map_or (nat_eq number) (type_number es text) false

-- the numbers of the object types that declare the interface, in order
abbrev pub is_implementer : List EntryOf → Text → Numbered → Bool
is_implementer es interface n = option_map_or (λ text. is_first es text n.number && declares_in es n.number interface) (object_name n.entry.definition) false

abbrev pub implementers : List EntryOf → Text → List ℕ
implementers es interface = map (λ n. n.number) (filter (is_implementer es interface) (numbered es))

-- some parts of the definition or extension with that number
abbrev pub parts_of_entry : {A : Type 0} → (BodyOf Span → List A) → List EntryOf → ℕ → List A
parts_of_entry parts es number = option_map_or (λ e. parts (body_in e.definition)) (slice_get es number) []

-- the texts of some references
abbrev pub texts_of : List (Bor Text) → List Text
texts_of rs = map (λ r. r.now) rs

-- whether a part of one of the definitions and extensions with these numbers passes
abbrev pub any_part : {A : Type 0} → (A → Bool) → (BodyOf Span → List A) → List EntryOf → List ℕ → Bool
any_part test parts es numbers = list_any (λ n. list_any test (parts_of_entry parts es n)) numbers
