-- The values of variables (CoerceVariableValues, section 6.1.2).
use Rattle.std.specs.Prelude.{Bool, true, false, List, [], ◌∷◌, Option, Some, None, codes, not, map, if◌then◌else◌, ◌&&◌, ◌||◌}
use Rattle.std.specs.List.{list_any}
use Rattle.std.specs.Option.{option_map, option_map_or}
use Rattle.std.specs.Str.{bytes_eq}
use Rattle.gq_text.specs.declared.place.Span.{Span}
use Rattle.gq_tree.specs.Forest.{none, more, row}
use Rattle.gq_tree.specs.Plain.{TypeOf, named, list_of, non_null, InputOf, VariableOf}
use Rattle.gq_types.specs.Entries.{EntryOf}
use Rattle.gq_types.specs.declared.entry.TypeKind.{TypeKind}
use Rattle.gq_types.specs.declared.entry.TypeKind.TheVariants as kind
use Rattle.gq_types.specs.Joined.{kind_named}
use Rattle.gq_types.specs.Names.{has_value}
use Rattle.gq_types.specs.BuiltIn.{is_built_in_scalar}
use Rattle.gq_values.specs.Literals.{is_int_32}
use Rattle.gq_meaning.specs.Values as value
use Rattle.gq_meaning.specs.Values.{Text, Value, Values}
use Rattle.gq_meaning.specs.Directives.{entry_of}
use Rattle.gq_table.specs.Numbers.{is_int, is_number, decimal}
use Rattle.gq_coerce.specs.Coerced.{Coerced, absent, fault, given, alone, null_value, leaf_value, enum_value, Part, items_of, list_value, wrapped, is_keyed, entries_of, object_value}
use Rattle.gq_coerce.specs.Literals.{Setting, setting, or_default, unless_null, inputs_from, input_fields, is_text_type}

-- a number, and another leaf, at a built-in scalar (section 3.5)
abbrev pub number_input : Text → Text → Coerced
number_input name s =
    if bytes_eq name (codes "Int") then (if is_int s && is_int_32 s then leaf_value (value.number (decimal s)) else fault) else
    if bytes_eq name (codes "Float") then leaf_value (value.number s) else
    if bytes_eq name (codes "ID") then (if is_int s then leaf_value (value.text s) else fault) else fault

abbrev pub leaf_input : Text → value.Leaf → Coerced
leaf_input name (value.boolean b) = if bytes_eq name (codes "Boolean") then leaf_value (value.boolean b) else fault
leaf_input name (value.number s) = number_input name s
leaf_input name (value.text t) = if is_text_type name then leaf_value (value.text t) else fault

-- an object with the only entry `num`, whose text spells a number: a number that JSON would not keep as it is spelled
abbrev pub spelled : value.Says → Coerced
spelled (value.leaf (value.text t)) = if is_number t then leaf_value (value.number t) else fault
spelled _ = fault

abbrev pub spelled_in : Values → Coerced
spelled_in none = fault
spelled_in (more part below none) = if is_keyed (codes "num") part.key then spelled part.says else fault
spelled_in (more part below (more q b r)) = fault

abbrev pub scalar_input : Text → value.Says → Values → Coerced
scalar_input name value.null below = fault
scalar_input name (value.leaf v) below = leaf_input name v
scalar_input name (value.enum n) below = fault
scalar_input name value.list below = fault
scalar_input name value.object below = if bytes_eq name (codes "Float") then spelled_in below else fault

-- a text that is one of the enum's values (section 3.9)
abbrev pub enum_input : List EntryOf → Text → value.Says → Coerced
enum_input es name (value.leaf (value.text t)) = if has_value es name t then enum_value t else fault
enum_input es name _ = fault

abbrev pub is_object_value : value.Says → Bool
is_object_value value.object = true
is_object_value _ = false

abbrev pub is_list_value : value.Says → Bool
is_list_value value.list = true
is_list_value _ = false

-- whether an entry is of no input field
abbrev pub is_known : List (InputOf Span) → Option Text → Bool
is_known is None = false
is_known is (Some name) = list_any (λ i. bytes_eq name i.name.text) is

abbrev pub has_unknown : List (InputOf Span) → Values → Bool
has_unknown is none = false
has_unknown is (more part below rest) = not (is_known is part.key) || has_unknown is rest

-- A value that is not null, at a type. parts are those in it, each read at a type.
abbrev pub at_name : Setting → Text → Option TypeKind → value.Says → Values → (TypeOf Span → List Part) → Coerced
at_name s name (Some kind.Scalar) says below parts = if is_built_in_scalar name then scalar_input name says below else given (alone says below)
at_name s name (Some kind.Enum) says below parts = enum_input s.entries name says
at_name s name (Some kind.InputObject) says below parts =
    if is_object_value says then (if has_unknown (input_fields s.entries name) below then fault else object_value (entries_of (inputs_from s (input_fields s.entries name) parts))) else fault
at_name s name (Some kind.Object) says below parts = fault
at_name s name (Some kind.Interface) says below parts = fault
at_name s name (Some kind.Union) says below parts = fault
at_name s name None says below parts = fault

abbrev pub formed : Setting → TypeOf Span → value.Says → Values → (TypeOf Span → List Part) → Coerced
formed s (named name) says below parts = at_name s name.text (kind_named s.entries name.text) says below parts
formed s (list_of item) says below parts = if is_list_value says then list_value (items_of fault (parts item)) else wrapped (formed s item says below parts)
formed s (non_null inner) says below parts = formed s inner says below parts

abbrev pub at_type : Setting → TypeOf Span → value.Says → Values → (TypeOf Span → List Part) → Coerced
at_type s t value.null below parts = unless_null t null_value
at_type s t says below parts = formed s t says below parts

-- values in a row, each at a type
abbrev pub read_all : Setting → Values → TypeOf Span → List Part
read_all s none t = []
read_all s (more part below rest) t = record { key = part.key; is = at_type s t part.says below (read_all s below) } ∷ read_all s rest t

abbrev pub input_value : Setting → TypeOf Span → Value → Coerced
input_value s t v = at_type s t v.label.says v.below (read_all s v.below)

-- what is given for a variable, or its default
abbrev pub given_value : Setting → VariableOf Span → Values → Coerced
given_value s v raw = or_default s v.type_ref v.default (option_map_or (input_value s v.type_ref) (entry_of v.name.text raw) absent)

abbrev pub variable_part : Setting → Values → VariableOf Span → Part
variable_part s raw v = record { key = Some v.name.text; is = given_value s v raw }

-- The values of an operation's variables, in the order of their names; none where a request error is raised.
abbrev pub coerced_variables : List EntryOf → List (VariableOf Span) → Values → Option Values
coerced_variables es vs raw = option_map row (entries_of (map (variable_part (setting es none) raw) vs))
