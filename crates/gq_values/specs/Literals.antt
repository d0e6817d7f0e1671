-- Literals read at types: values of correct type (section 5.6.1), with the coercion of literals of sections 3.5, 3.9 to 3.12.
use Rattle.std.specs.Prelude.{ℕ, ◌+◌, ◌*◌, ◌-◌, ◌^◌, Bool, true, false, List, [], ◌∷◌, Option, Some, None, codes, nat_eq, nat_le, nat_lt, bytes_eq, if◌then◌else◌, ◌||◌, ◌&&◌}
use Rattle.std.specs.List.{list_any}
use Rattle.std.specs.Option.{option_map_or}
use Rattle.gq_text.specs.declared.place.Span.{Span}
use Rattle.gq_tree.specs.Forest.{none, more}
use Rattle.gq_tree.specs.Plain.{NameOf, Says, Part, Val, Vals, TypeOf, named, list_of, non_null, InputOf, variable, int, float, string, boolean, null, enum, list, object}
use Rattle.gq_tree.specs.Wrapping.{item_of, is_null}
use Rattle.gq_types.specs.declared.entry.TypeKind.{TypeKind}
use Rattle.gq_types.specs.declared.entry.TypeKind.TheVariants as kind
use Rattle.gq_types.specs.Entries.{Text, EntryOf}
use Rattle.gq_types.specs.BuiltIn.{is_built_in_scalar}
use Rattle.gq_types.specs.Joined.{kind_named}
use Rattle.gq_types.specs.Kinds.{is_input}
use Rattle.gq_types.specs.Names.{input_named, has_value}

-- the number that decimal digits spell
abbrev pub digits_from : ℕ → List ℕ → ℕ
digits_from n [] = n
digits_from n (d ∷ ds) = digits_from (n * 10 + (d - 48)) ds

-- an Int in 32 bits (section 3.5.1): from -2147483648 to 2147483647
abbrev pub is_int_32 : Text → Bool
is_int_32 [] = false
is_int_32 (c ∷ cs) = if nat_eq c 45 then nat_le (digits_from 0 cs) (2 ^ 31) else nat_lt (digits_from 0 (c ∷ cs)) (2 ^ 31)

abbrev pub is_variable : {P : Type 0} → Says P → Bool
is_variable (variable name place) = true
is_variable _ = false

abbrev pub is_list : {P : Type 0} → Says P → Bool
is_list (list place) = true
is_list _ = false

abbrev pub is_object_literal : {P : Type 0} → Says P → Bool
is_object_literal (object place) = true
is_object_literal _ = false

-- what the built-in scalars accept (section 3.5)
abbrev pub fits_built_in : {P : Type 0} → Text → Says P → Bool
fits_built_in text (variable name place) = true
fits_built_in text (int spelling place) = (bytes_eq text (codes "Int") && is_int_32 spelling) || bytes_eq text (codes "Float") || bytes_eq text (codes "ID")
fits_built_in text (float spelling place) = bytes_eq text (codes "Float")
fits_built_in text (string spelling place) = bytes_eq text (codes "String") || bytes_eq text (codes "ID")
fits_built_in text (boolean value place) = bytes_eq text (codes "Boolean")
fits_built_in text (null place) = true
fits_built_in text (enum name) = false
fits_built_in text (list place) = false
fits_built_in text (object place) = false

-- an enum accepts its values (section 3.9)
abbrev pub fits_enum : {P : Type 0} → List EntryOf → Text → Says P → Bool
fits_enum es text (enum name) = has_value es text name.text
fits_enum es text (variable name place) = true
fits_enum es text (null place) = true
fits_enum es text (int spelling place) = false
fits_enum es text (float spelling place) = false
fits_enum es text (string spelling place) = false
fits_enum es text (boolean value place) = false
fits_enum es text (list place) = false
fits_enum es text (object place) = false

-- A custom scalar accepts every literal, an input object an object literal. What no type is, or no input type, is not tested.
abbrev pub fits_kind : {P : Type 0} → List EntryOf → Text → Option TypeKind → Says P → Bool
fits_kind es text (Some kind.Scalar) says = if is_built_in_scalar text then fits_built_in text says else true
fits_kind es text (Some kind.Enum) says = fits_enum es text says
fits_kind es text (Some kind.InputObject) says = is_object_literal says || is_variable says || is_null says
fits_kind es text (Some kind.Object) says = true
fits_kind es text (Some kind.Interface) says = true
fits_kind es text (Some kind.Union) says = true
fits_kind es text None says = true

-- Whether a literal fits a type by its outermost form. Null fits where the type is nullable, a literal that is no list
-- fits a list type as its only item (section 3.11), and variables are judged elsewhere.
abbrev pub fits : {P Q : Type 0} → List EntryOf → TypeOf P → Says Q → Bool
fits es (named name) says = fits_kind es name.text (kind_named es name.text) says
fits es (list_of item) says = is_list says || is_null says || fits es item says
fits es (non_null inner) says = if is_null says then false else fits es inner says

-- What a literal is read at: a type, or any. It is read at any type where none is known, and inside the literal of a custom
-- scalar or one that does not fit: then nothing that needs a type is asked of it.
pub data Expected : Type 0 where
  at_type : TypeOf Span → Expected
  at_any : Expected

-- IsInputType (section 3.4.2); not of what is not known
abbrev pub is_input_type : List EntryOf → TypeOf Span → Bool
is_input_type es (named name) = option_map_or is_input (kind_named es name.text) false
is_input_type es (list_of item) = is_input_type es item
is_input_type es (non_null inner) = is_input_type es inner

-- a default value of that type
abbrev pub default_at : List EntryOf → TypeOf Span → Expected
default_at es t = if is_input_type es t then at_type t else at_any

-- the items of a list literal
abbrev pub items_at : Expected → Expected
items_at (at_type t) = option_map_or at_type (item_of t) at_any
items_at at_any = at_any

abbrev pub is_input_object : Option TypeKind → Bool
is_input_object (Some kind.InputObject) = true
is_input_object _ = false

-- the input object at whose fields an object literal at this type is read
abbrev pub input_object_at : List EntryOf → TypeOf Span → Option Text
input_object_at es (named name) = if is_input_object (kind_named es name.text) then Some name.text else None
input_object_at es (list_of item) = input_object_at es item
input_object_at es (non_null inner) = input_object_at es inner

-- the type of an input field; what is in an unknown one is read at any type
abbrev pub at_input : Option (InputOf Span) → Expected
at_input (Some i) = at_type i.type_ref
at_input None = at_any

-- the value of the field of that name in an object literal, by the input object at whose fields it is read
abbrev pub at_field : List EntryOf → (type_name : Option Text) → Text → Expected
at_field es (Some type_name) text = at_input (input_named es type_name text)
at_field es None text = at_any

abbrev pub field_at : List EntryOf → Expected → Text → Expected
field_at es (at_type t) text = at_field es (input_object_at es t) text
field_at es at_any text = at_any

-- what stands at a place in the braces or brackets of a literal
abbrev pub part_at : {P : Type 0} → List EntryOf → Expected → Option (NameOf P) → Expected
part_at es reading None = items_at reading
part_at es reading (Some key) = field_at es reading key.text

-- A literal that stands in literals in a row, at any depth, and what it is read at, where those in the row are read as given.
pub data StandsIn (es : List EntryOf) : (Option (NameOf Span) → Expected) → Vals Span → Expected → Val Span → Type 0 where
  here : {read : Option (NameOf Span) → Expected} {part : Part Span} {below rest : Vals Span} →
      StandsIn es read (more part below rest) (read part.key) (record { label = part; below = below })
  within : {read : Option (NameOf Span) → Expected} {part : Part Span} {below rest : Vals Span} {reading : Expected} {value : Val Span} →
      StandsIn es (part_at es (read part.key)) below reading value → StandsIn es read (more part below rest) reading value
  after : {read : Option (NameOf Span) → Expected} {part : Part Span} {below rest : Vals Span} {reading : Expected} {value : Val Span} →
      StandsIn es read rest reading value → StandsIn es read (more part below rest) reading value

-- a literal, or one that stands in it, and what it is read at
abbrev pub Holds : List EntryOf → Expected → Val Span → Expected → Val Span → Type 0
Holds es reading value inner part = StandsIn es (λ key. reading) (more value.label value.below none) inner part
