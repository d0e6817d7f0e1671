-- What a name means, and which extensions belong to a definition (section 3.4.3).
use Rattle.std.specs.Prelude.{ℕ, Bool, true, false, List, [], Option, Some, None, nat_eq, if◌then◌else◌, length, map, filter, find, position, flat_map, unwrap_or, option_and_then, not}
use Rattle.std.specs.Option.{option_map_or}
use Rattle.std.specs.Str.{bytes_eq}
use Rattle.gq_text.specs.declared.place.Span.{Span}
use Rattle.gq_tree.specs.Plain.{NameOf, InputOf, FieldDefinitionOf, EnumValueOf, BodyOf, scalar_type, object_type, interface_type, union_type, enum_type, input_type, TypeSystemOf, schema, type_definition, directive_definition}
use Rattle.gq_types.specs.declared.entry.TypeKind.{TypeKind}
use Rattle.gq_types.specs.Entries.{Text, EntryOf, Numbered, numbered}
use Rattle.gq_types.specs.Kinds.{kind_of, same_kind}
use Rattle.gq_types.specs.BuiltIn.{defines_built_in}

-- whether it defines a type of that name
abbrev pub is_type_named : Text → TypeSystemOf Span → Bool
is_type_named text (schema extends description directives roots place) = false
is_type_named text (type_definition true description name directives body place) = false
is_type_named text (type_definition false description name directives body place) = bytes_eq text name.text
is_type_named text (directive_definition description name arguments repeatable locations place) = false

-- whether it defines a directive of that name
abbrev pub is_directive_named : Text → TypeSystemOf Span → Bool
is_directive_named text (schema extends description directives roots place) = false
is_directive_named text (type_definition extends description name directives body place) = false
is_directive_named text (directive_definition description name arguments repeatable locations place) = bytes_eq text name.text

-- whether it is a schema definition
abbrev pub is_schema : TypeSystemOf Span → Bool
is_schema (schema extends description directives roots place) = not extends
is_schema (type_definition extends description name directives body place) = false
is_schema (directive_definition description name arguments repeatable locations place) = false

-- the kind of the type that it defines or extends
abbrev pub kind_in : TypeSystemOf Span → Option TypeKind
kind_in (schema extends description directives roots place) = None
kind_in (type_definition extends description name directives body place) = Some (kind_of body)
kind_in (directive_definition description name arguments repeatable locations place) = None

-- A name means the first definition of it: its number, and the kind of type.
abbrev pub type_number : List EntryOf → Text → Option ℕ
type_number es text = position (λ e. is_type_named text e.definition) es

abbrev pub kind_named : List EntryOf → Text → Option TypeKind
kind_named es text = option_and_then (λ e. kind_in e.definition) (find (λ e. is_type_named text e.definition) es)

abbrev pub directive_number : List EntryOf → Text → Option ℕ
directive_number es text = position (λ e. is_directive_named text e.definition) es

-- the number of the schema definition; where there is none, schema extensions belong to the number after the last
abbrev pub schema_number : List EntryOf → ℕ
schema_number es = unwrap_or (position (λ e. is_schema e.definition) es) (length es)

-- The number of what an entry belongs to: an extension to what it extends, which is the first definition of its name
-- where both are of one kind; every other entry to itself.
abbrev pub owner_of_extension : List EntryOf → ℕ → Text → TypeKind → ℕ
owner_of_extension es number text kind =
    if option_map_or (same_kind kind) (kind_named es text) false then unwrap_or (type_number es text) number else number

abbrev pub owner_of : List EntryOf → ℕ → TypeSystemOf Span → ℕ
owner_of es number (schema true description directives roots place) = schema_number es
owner_of es number (schema false description directives roots place) = number
owner_of es number (type_definition true description name directives body place) = owner_of_extension es number name.text (kind_of body)
owner_of es number (type_definition false description name directives body place) = number
owner_of es number (directive_definition description name arguments repeatable locations place) = number

abbrev pub owner : List EntryOf → Numbered → ℕ
owner es n = owner_of es n.number n.entry.definition

-- the entries that belong to a number, in order
abbrev pub joined : List EntryOf → ℕ → List Numbered
joined es number = filter (λ n. nat_eq (owner es n) number) (numbered es)

-- a part of an entry, and the document that it stands in
pub record In (A : Type 0) : Type 0 where
  pub file : ℕ
  pub it : A

abbrev pub put_in : {A : Type 0} → ℕ → List A → List (In A)
put_in file xs = map (λ x. record { file = file; it = x }) xs

-- the parts of a definition or extension
abbrev pub fields_in_body : BodyOf Span → List (FieldDefinitionOf Span)
fields_in_body scalar_type = []
fields_in_body (object_type interfaces fields) = fields
fields_in_body (interface_type interfaces fields) = fields
fields_in_body (union_type members) = []
fields_in_body (enum_type values) = []
fields_in_body (input_type fields) = []

abbrev pub interfaces_in_body : BodyOf Span → List (NameOf Span)
interfaces_in_body scalar_type = []
interfaces_in_body (object_type interfaces fields) = interfaces
interfaces_in_body (interface_type interfaces fields) = interfaces
interfaces_in_body (union_type members) = []
interfaces_in_body (enum_type values) = []
interfaces_in_body (input_type fields) = []

abbrev pub members_in_body : BodyOf Span → List (NameOf Span)
members_in_body scalar_type = []
members_in_body (object_type interfaces fields) = []
members_in_body (interface_type interfaces fields) = []
members_in_body (union_type members) = members
members_in_body (enum_type values) = []
members_in_body (input_type fields) = []

abbrev pub values_in_body : BodyOf Span → List (EnumValueOf Span)
values_in_body scalar_type = []
values_in_body (object_type interfaces fields) = []
values_in_body (interface_type interfaces fields) = []
values_in_body (union_type members) = []
values_in_body (enum_type values) = values
values_in_body (input_type fields) = []

abbrev pub inputs_in_body : BodyOf Span → List (InputOf Span)
inputs_in_body scalar_type = []
inputs_in_body (object_type interfaces fields) = []
inputs_in_body (interface_type interfaces fields) = []
inputs_in_body (union_type members) = []
inputs_in_body (enum_type values) = []
inputs_in_body (input_type fields) = fields

-- what a definition or extension of a type says; a schema and a directive have no such parts, as a scalar
abbrev pub body_in : TypeSystemOf Span → BodyOf Span
body_in (schema extends description directives roots place) = scalar_type
body_in (type_definition extends description name directives body place) = body
body_in (directive_definition description name arguments repeatable locations place) = scalar_type

-- some of its parts, each with its document
abbrev pub parts_in : {A : Type 0} → (BodyOf Span → List A) → EntryOf → List (In A)
parts_in parts e = put_in e.file (parts (body_in e.definition))

-- those of a type with its extensions, in order
abbrev pub parts_of : {A : Type 0} → (BodyOf Span → List A) → List EntryOf → ℕ → List (In A)
parts_of parts es number = flat_map (λ n. parts_in parts n.entry) (joined es number)

abbrev pub fields_of : List EntryOf → ℕ → List (In (FieldDefinitionOf Span))
fields_of es number = parts_of fields_in_body es number

abbrev pub interfaces_of : List EntryOf → ℕ → List (In (NameOf Span))
interfaces_of es number = parts_of interfaces_in_body es number

abbrev pub members_of : List EntryOf → ℕ → List (In (NameOf Span))
members_of es number = parts_of members_in_body es number

abbrev pub values_of : List EntryOf → ℕ → List (In (EnumValueOf Span))
values_of es number = parts_of values_in_body es number

abbrev pub inputs_of : List EntryOf → ℕ → List (In (InputOf Span))
inputs_of es number = parts_of inputs_in_body es number

-- the entries that are judged: all but those that define what is built in
abbrev pub judged : List EntryOf → List Numbered
judged es = filter (λ n. not (defines_built_in n.entry.definition)) (numbered es)
