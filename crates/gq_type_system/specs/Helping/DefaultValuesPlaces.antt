-- What is computed of the ways between input fields by default values, computed.
use Rattle.std.specs.Prelude.{ℕ, ◌+◌, Bool, false, List, [], ◌∷◌, ◌++◌, if◌then◌else◌, Option, Some, None, map, flat_map, slice_get, slice_index_or, length, is_some, drop, nat_eq, nat_lt}
use Rattle.std.specs.Borrow.{Bor}
use Rattle.std.specs.List.{list_any}
use Rattle.std.specs.Option.{option_map, option_map_or}
use Rattle.std.specs.Str.{bytes_eq}
use Rattle.gq_text.specs.declared.place.Span.{Span}
use Rattle.gq_tree.specs.Forest.{none, more}
use Rattle.gq_tree.specs.Plain.{NameOf, Says, Val, Vals, TypeOf, InputOf, variable, int, float, string, boolean, null, enum, list, object}
use Rattle.gq_tree.specs.Views.{type_view}
use Rattle.gq_tree.specs.declared.types.TypeRef.{TypeRef}
use Rattle.gq_type_system.specs.declared.input_fields.Field.{Field}
use Rattle.gq_type_system.specs.declared.input_fields.InputFields.{InputFields}
use Rattle.gq_types.specs.Entries.{Text, EntryOf, numbered_from}
use Rattle.gq_types.specs.Joined.{type_number}
use Rattle.gq_types.specs.Look.{joined_numbers}
use Rattle.gq_types.specs.Names.{input_named}
use Rattle.gq_values.specs.Literals.{Expected, at_type, at_any, part_at, input_object_at}
use Rattle.gq_type_system.specs.EndlessInputs.{InputField}
use Rattle.gq_type_system.specs.Helping.EndlessInputsPlaces.{inputs_at, row_items, type_name_at}

-- the field that the code's field stands for
abbrev pub field_view : Field → InputField
field_view f = record { type_name = f.type_name.now; name = f.name.now }

abbrev pub fields_view : List Field → List InputField
fields_view fs = map field_view fs

-- the input fields of the type of a number
abbrev pub named_field : Text → InputOf Span → InputField
named_field type_name input = record { type_name = type_name; name = input.name.text }

abbrev pub named_fields : Text → List (InputOf Span) → List InputField
named_fields type_name inputs = map (named_field type_name) inputs

abbrev pub named_fields_at : List EntryOf → Text → ℕ → List InputField
named_fields_at es type_name number = named_fields type_name (inputs_at es number)

abbrev pub fields_at : List EntryOf → ℕ → List InputField
fields_at es number = flat_map (named_fields_at es (type_name_at es number)) (joined_numbers es number)

-- numbers from one on, as many as the list is long
abbrev pub count_from : {A : Type 0} → ℕ → List A → List ℕ
count_from k [] = []
count_from k (x ∷ xs) = k ∷ count_from (k + 1) xs

abbrev pub number_rows : {A : Type 0} → ℕ → List (List A) → List (List ℕ)
number_rows k [] = []
number_rows k (xs ∷ xss) = count_from k xs ∷ number_rows (k + length xs) xss

-- the input fields of all types, and of each entry the numbers of those of its type
abbrev pub fields_left : List EntryOf → ℕ → List (List InputField)
fields_left es i = map (λ n. fields_at es n.number) (numbered_from i (drop i es))

abbrev pub field_rows : List EntryOf → List (List InputField)
field_rows es = fields_left es 0

abbrev pub all_fields : List EntryOf → List InputField
all_fields es = flat_map (λ fields. fields) (field_rows es)

abbrev pub field_numbers : List EntryOf → List (List ℕ)
field_numbers es = number_rows 0 (field_rows es)

-- the type that is read at
abbrev pub type_in : Expected → Option (TypeOf Span)
type_in (at_type t) = Some t
type_in at_any = None

abbrev pub type_at : Option (Bor TypeRef) → Option (TypeOf Span)
type_at o = option_map (λ r. type_view r.now) o

-- the names of the parts of an object literal
abbrev pub keys_in : Vals Span → List Text
keys_in none = []
keys_in (more part below rest) = option_map_or (λ key. key.text ∷ []) part.key [] ++ keys_in rest

abbrev pub has_default : List EntryOf → InputField → Bool
has_default es field = option_map_or (λ i. is_some i.default) (input_named es field.type_name field.name) false

-- the field of a number, if it is absent and has a default value
abbrev pub absent_field : List EntryOf → List Text → ℕ → InputField → List ℕ
absent_field es keys number field = if list_any (bytes_eq field.name) keys then [] else if has_default es field then number ∷ [] else []

abbrev pub absent_number : List EntryOf → List InputField → List Text → ℕ → List ℕ
absent_number es fields keys number = option_map_or (absent_field es keys number) (slice_get fields number) []

abbrev pub numbers_of : List EntryOf → List (List ℕ) → Text → List ℕ
numbers_of es rows type_name = option_map_or (λ number. slice_index_or rows number []) (type_number es type_name) []

abbrev pub absent_numbers : List EntryOf → List InputField → List (List ℕ) → Text → List Text → List ℕ
absent_numbers es fields rows type_name keys = flat_map (absent_number es fields keys) (numbers_of es rows type_name)

-- all fields among these numbers that have default values
abbrev pub all_with_defaults : List EntryOf → List InputField → List ℕ → List ℕ
all_with_defaults es fields numbers = flat_map (absent_number es fields []) numbers

-- Behind the numbers of fields each entry has one for all fields with default values of its type.
abbrev pub number_behind : List InputField → List (List ℕ) → ℕ → List ℕ
number_behind fields rows number = if nat_lt number (length rows) then (length fields + number) ∷ [] else []

abbrev pub type_node : List EntryOf → List InputField → List (List ℕ) → Text → List ℕ
type_node es fields rows type_name = option_map_or (number_behind fields rows) (type_number es type_name) []

-- what a literal of that type with these keys leads to: the number for all fields, where it has no key
abbrev pub led_to : List EntryOf → List InputField → List (List ℕ) → Text → List Text → List ℕ
led_to es fields rows type_name keys = if nat_eq (length keys) 0 then type_node es fields rows type_name else absent_numbers es fields rows type_name keys

-- what a literal that is read at a type leads to
abbrev pub led_at : List EntryOf → List InputField → List (List ℕ) → TypeOf Span → Says Span → Vals Span → List ℕ
led_at es fields rows t (object place) below = option_map_or (λ type_name. led_to es fields rows type_name (keys_in below)) (input_object_at es t) []
led_at es fields rows t (list place) below = []
led_at es fields rows t (variable name place) below = []
led_at es fields rows t (int text place) below = []
led_at es fields rows t (float text place) below = []
led_at es fields rows t (string text place) below = []
led_at es fields rows t (boolean value place) below = []
led_at es fields rows t (null place) below = []
led_at es fields rows t (enum name) below = []

-- what stands in the braces or brackets of a literal at a type
abbrev pub below_of : List EntryOf → TypeOf Span → Option (NameOf Span) → Expected
below_of es t = part_at es (at_type t)

-- the type of the field of that name of an input object
abbrev pub field_type : List EntryOf → Option Text → Text → Option (TypeOf Span)
field_type es None text = None
field_type es (Some type_name) text = option_map (λ i. i.type_ref) (input_named es type_name text)

-- what is found at the literals that are read at types, each before those that stand in it
abbrev pub gathered : List EntryOf → (TypeOf Span → Says Span → Vals Span → List ℕ) → (Option (NameOf Span) → Expected) → Vals Span → List ℕ
gathered es at read none = []
gathered es at read (more part below rest) =
    option_map_or (λ t. at t part.says below ++ gathered es at (below_of es t) below) (type_in (read part.key)) [] ++ gathered es at read rest

abbrev pub gathered_of : List EntryOf → (TypeOf Span → Says Span → Vals Span → List ℕ) → Option (TypeOf Span) → Val Span → List ℕ
gathered_of es at o value = option_map_or (λ t. at t value.label.says value.below ++ gathered es at (below_of es t) value.below) o []

-- what a literal leads to by the fields as the code has them
abbrev pub led_in : List EntryOf → InputFields → TypeOf Span → Says Span → Vals Span → List ℕ
led_in es all = led_at es (fields_view all.fields.items) (row_items all.numbers.items)

-- the numbers that a field leads to
abbrev pub default_leads : List EntryOf → List InputField → List (List ℕ) → InputOf Span → List ℕ
default_leads es fields rows input = option_map_or (gathered_of es (led_at es fields rows) (Some input.type_ref)) input.default []

abbrev pub field_leads : List EntryOf → List InputField → List (List ℕ) → InputField → List ℕ
field_leads es fields rows field = option_map_or (default_leads es fields rows) (input_named es field.type_name field.name) []

-- what each number leads to: fields, and behind them the entries
abbrev pub lead_table : List EntryOf → List InputField → List (List ℕ) → List (List ℕ)
lead_table es fields rows = map (field_leads es fields rows) fields ++ map (all_with_defaults es fields) rows

-- whether one of these numbers is marked
abbrev pub any_marked : List Bool → List ℕ → Bool
any_marked marks numbers = list_any (λ number. slice_index_or marks number false) numbers
