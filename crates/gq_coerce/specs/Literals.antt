-- Literals coerced to types (sections 3.5, 3.9 to 3.12 and 6.4.1).
use Rattle.std.specs.Prelude.{ℕ, zero, suc, ◌+◌, Bool, true, false, List, [], ◌∷◌, Option, Some, None, codes, map, length, unwrap_or, if◌then◌else◌, ◌||◌}
use Rattle.std.specs.Option.{option_map, option_map_or}
use Rattle.std.specs.Str.{bytes_eq}
use Rattle.gq_text.specs.declared.place.Span.{Span}
use Rattle.gq_tree.specs.Forest.{none, more, row}
use Rattle.gq_tree.specs.Plain as tree
use Rattle.gq_tree.specs.Plain.{Val, Vals, TypeOf, named, list_of, non_null, InputOf, no_place, place_value}
use Rattle.gq_lex.specs.Decoding.{string_at, raw_at}
use Rattle.gq_lex.specs.Values.{block_value}
use Rattle.gq_types.specs.Entries.{EntryOf}
use Rattle.gq_tree.specs.Wrapping.{is_non_null}
use Rattle.gq_types.specs.declared.entry.TypeKind.{TypeKind}
use Rattle.gq_types.specs.declared.entry.TypeKind.TheVariants as kind
use Rattle.gq_types.specs.Joined.{kind_named, type_number, inputs_of, inputs_in_body, body_in}
use Rattle.gq_types.specs.Names.{has_value}
use Rattle.gq_types.specs.BuiltIn.{is_built_in_scalar}
use Rattle.gq_values.specs.Literals.{is_int_32, is_list, is_object_literal}
use Rattle.gq_meaning.specs.Values as value
use Rattle.gq_meaning.specs.Values.{Text, Value, Values}
use Rattle.gq_meaning.specs.Selected.{Arguments}
use Rattle.gq_meaning.specs.Directives.{entry_of}
use Rattle.gq_table.specs.Numbers.{decimal}
use Rattle.gq_coerce.specs.Coerced.{Coerced, absent, fault, given, unnamed, null_value, leaf_value, enum_value, Part, items_of, list_value, wrapped, part_named, entries_of, object_value}

abbrev pub Says : Type 0
Says = tree.Says (Unit {0})

-- the value of a string or block string by its spelling (section 2.9.4)
abbrev pub string_text : Text → Text
string_text spelling = unwrap_or (string_at spelling) (block_value (unwrap_or (raw_at spelling) []))

-- the value of a variable; one that has none is absent
abbrev pub variable_value : Values → Text → Coerced
variable_value variables name = option_map_or (λ v. given (unnamed v)) (entry_of name variables) absent

abbrev pub is_text_type : Text → Bool
is_text_type name = bytes_eq name (codes "String") || bytes_eq name (codes "ID")

-- An Int literal, and another literal, at a built-in scalar (section 3.5).
abbrev pub int_value : Text → Text → Coerced
int_value name s =
    if bytes_eq name (codes "Int") then (if is_int_32 s then leaf_value (value.number (decimal s)) else fault) else
    if bytes_eq name (codes "Float") then leaf_value (value.number s) else
    if bytes_eq name (codes "ID") then leaf_value (value.text s) else fault

abbrev pub scalar_value : Text → Says → Coerced
scalar_value name (tree.int s place) = int_value name s
scalar_value name (tree.float s place) = if bytes_eq name (codes "Float") then leaf_value (value.number s) else fault
scalar_value name (tree.string s place) = if is_text_type name then leaf_value (value.text (string_text s)) else fault
scalar_value name (tree.boolean b place) = if bytes_eq name (codes "Boolean") then leaf_value (value.boolean b) else fault
scalar_value name (tree.variable n place) = fault
scalar_value name (tree.null place) = fault
scalar_value name (tree.enum n) = fault
scalar_value name (tree.list place) = fault
scalar_value name (tree.object place) = fault

-- a literal at an enum (section 3.9)
abbrev pub value_of_enum : List EntryOf → Text → Says → Coerced
value_of_enum es name (tree.enum n) = if has_value es name n.text then enum_value n.text else fault
value_of_enum es name _ = fault

-- a literal at a custom scalar: it is what it says
abbrev pub free_value : Values → Says → List Part → Coerced
free_value variables (tree.variable n place) parts = variable_value variables n.text
free_value variables (tree.int s place) parts = leaf_value (value.number s)
free_value variables (tree.float s place) parts = leaf_value (value.number s)
free_value variables (tree.string s place) parts = leaf_value (value.text (string_text s))
free_value variables (tree.boolean b place) parts = leaf_value (value.boolean b)
free_value variables (tree.null place) parts = null_value
free_value variables (tree.enum n) parts = enum_value n.text
free_value variables (tree.list place) parts = list_value (items_of null_value parts)
free_value variables (tree.object place) parts = object_value (entries_of parts)

-- what a literal is read at: a type, or as what it says
pub data ReadAt : Type 0 where
  at_type : TypeOf Span → ReadAt
  at_any : ReadAt

-- what coercion depends on: the type system, the values of variables, and the values of defaults
pub record Setting : Type 0 where
  pub entries : List EntryOf
  pub variables : Values
  pub default : TypeOf Span → Option (Val Span) → Coerced

-- what an input is given or, without that, its default; one of a type without null must have one of them
abbrev pub or_default : Setting → TypeOf Span → Option (Val Span) → Coerced → Coerced
or_default s t default (given v) = given v
or_default s t default fault = fault
or_default s t None absent = if is_non_null t then fault else absent
or_default s t (Some d) absent = s.default t (Some d)

-- The values of input fields or arguments in the order of their definitions. parts are those that are given, each read at a type.
abbrev pub input_part : Setting → (TypeOf Span → List Part) → InputOf Span → Part
input_part s parts i = record { key = Some i.name.text; is = or_default s i.type_ref i.default (part_named i.name.text (parts i.type_ref)) }

abbrev pub inputs_from : Setting → List (InputOf Span) → (TypeOf Span → List Part) → List Part
inputs_from s is parts = map (input_part s parts) is

abbrev pub input_fields : List EntryOf → Text → List (InputOf Span)
input_fields es name = option_map_or (λ number. map (λ i. i.it) (inputs_of es number)) (type_number es name) []

-- A literal that is no variable and not null, at a type. parts are those in it, each read as said.
abbrev pub at_name : Setting → Text → Option TypeKind → Says → (ReadAt → List Part) → Coerced
at_name s name (Some kind.Scalar) says parts = if is_built_in_scalar name then scalar_value name says else free_value s.variables says (parts at_any)
at_name s name (Some kind.Enum) says parts = value_of_enum s.entries name says
at_name s name (Some kind.InputObject) says parts =
    if is_object_literal says then object_value (entries_of (inputs_from s (input_fields s.entries name) (λ t. parts (at_type t)))) else fault
at_name s name (Some kind.Object) says parts = fault
at_name s name (Some kind.Interface) says parts = fault
at_name s name (Some kind.Union) says parts = fault
at_name s name None says parts = fault

-- what an item of a list is where it is absent
abbrev pub missing_item : TypeOf Span → Coerced
missing_item item = if is_non_null item then fault else null_value

abbrev pub formed : Setting → TypeOf Span → Says → (ReadAt → List Part) → Coerced
formed s (named name) says parts = at_name s name.text (kind_named s.entries name.text) says parts
formed s (list_of item) says parts =
    if is_list says then list_value (items_of (missing_item item) (parts (at_type item))) else wrapped (formed s item says parts)
formed s (non_null inner) says parts = formed s inner says parts

-- null, and the null that a variable has, are faults where the type has none
abbrev pub unless_null : TypeOf Span → Coerced → Coerced
unless_null t absent = absent
unless_null t fault = fault
unless_null t (given v) = if is_non_null t then (if value.is_null v.label.says then fault else given v) else given v

abbrev pub at_type_value : Setting → TypeOf Span → Says → (ReadAt → List Part) → Coerced
at_type_value s t (tree.variable n place) parts = unless_null t (variable_value s.variables n.text)
at_type_value s t (tree.null place) parts = unless_null t null_value
at_type_value s t says parts = formed s t says parts

abbrev pub read_at : Setting → ReadAt → Says → (ReadAt → List Part) → Coerced
read_at s (at_type t) says parts = at_type_value s t says parts
read_at s at_any says parts = free_value s.variables says (parts at_any)

-- literals in a row, each read as said
abbrev pub read_all : Setting → Vals (Unit {0}) → ReadAt → List Part
read_all s none read = []
read_all s (more part below rest) read = record { key = option_map (λ n. n.text) part.key; is = read_at s read part.says (read_all s below) } ∷ read_all s rest read

-- A literal at a type.
abbrev pub literal_value : Setting → TypeOf Span → Val (Unit {0}) → Coerced
literal_value s t v = at_type_value s t v.label.says (read_all s v.below)

-- Default values: literals without variables, in which defaults are entered through at most n others.
abbrev pub default_within : ℕ → List EntryOf → TypeOf Span → Option (Val Span) → Coerced
default_within zero es t default = fault
default_within (suc n) es t None = absent
default_within (suc n) es t (Some d) = literal_value (record { entries = es; variables = none; default = default_within n es }) t (place_value no_place d)

-- how many input fields there are
abbrev pub input_count : List EntryOf → ℕ
input_count [] = 0
input_count (e ∷ es) = length (inputs_in_body (body_in e.definition)) + input_count es

-- The setting of an operation. In a valid type system no default leads back to itself (section 3.10), so no chain of them, each
-- entered in the one before, is longer than the number of input fields, the first of them being an argument's or a variable's.
abbrev pub setting : List EntryOf → Values → Setting
setting es variables = record { entries = es; variables = variables; default = default_within (suc (input_count es)) es }

-- the arguments of a field (CoerceArgumentValues, section 6.4.1); none where they are at fault
abbrev pub coerced_arguments : List EntryOf → Values → List (InputOf Span) → Arguments → Option Values
coerced_arguments es variables definitions arguments =
    option_map row (entries_of (inputs_from (setting es variables) definitions (λ t. read_all (setting es variables) (row arguments) (at_type t))))
