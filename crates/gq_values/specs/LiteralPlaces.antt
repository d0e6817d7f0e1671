-- The faults of literals, computed.
use Rattle.std.specs.Prelude.{ℕ, Bool, List, [], ◌∷◌, ◌++◌, Option, Some, None, map, flat_map, if◌then◌else◌, ◌||◌}
use Rattle.std.specs.Option.{option_map_or}
use Rattle.gq_text.specs.declared.place.Span.{Span}
use Rattle.gq_tree.specs.Forest.{none, more}
use Rattle.gq_tree.specs.Plain.{NameOf, Says, Val, Vals, variable, int, float, string, boolean, null, enum, list, object}
use Rattle.gq_tree.specs.Views.{value_view}
use Rattle.gq_tree.specs.Wrapping.{is_null}
use Rattle.gq_tree.specs.declared.value.Value.{Value}
use Rattle.gq_tree.specs.declared.value.ObjectField.{ObjectField}
use Rattle.gq_names.specs.Repeats.{repeated_after}
use Rattle.gq_fault.specs.declared.code.Code.TheVariants.{WrongValue, UnknownInputField, InputFieldNotUnique, InputFieldMissing}
use Rattle.gq_fault.specs.declared.fault.Fault.{Fault}
use Rattle.gq_types.specs.Entries.{Text, EntryOf}
use Rattle.gq_types.specs.Names.{input_named}
use Rattle.gq_types.specs.Required.{is_field_missing}
use Rattle.gq_values.specs.Literals.{is_variable, is_object_literal, fits, Expected, at_type, at_any, part_at, field_at, input_object_at}
use Rattle.gq_fault.specs.FaultPlaces.{fault_at, fault_over}
use Rattle.gq_values.specs.LiteralFaults.{entry_names, literal_place, first_byte}

abbrev pub texts : List (NameOf Span) → List Text
texts names = map (λ n. n.text) names

-- the entries whose key is one of `before` or stands earlier
abbrev pub repeated_fields : ℕ → List Text → List (NameOf Span) → List Fault
repeated_fields file before names = map (fault_at file InputFieldNotUnique) (repeated_after (λ n. n.text) before names)

abbrev pub unknown_field_at : List EntryOf → ℕ → Text → NameOf Span → List Fault
unknown_field_at es file type_name name = option_map_or (λ i. []) (input_named es type_name name.text) (fault_at file UnknownInputField name ∷ [])

abbrev pub unknown_fields : List EntryOf → ℕ → Text → List (NameOf Span) → List Fault
unknown_fields es file type_name names = flat_map (unknown_field_at es file type_name) names

-- one fault, where any is missing
abbrev pub missing_fields : List EntryOf → ℕ → Text → List Text → Span → List Fault
missing_fields es file type_name given place = if is_field_missing es type_name given then fault_over file InputFieldMissing (first_byte place) ∷ [] else []

-- what is told of the names of an object literal at an input object
abbrev pub field_faults : List EntryOf → ℕ → Option Text → Span → List (NameOf Span) → List Fault
field_faults es file None place names = []
field_faults es file (Some type_name) place names = unknown_fields es file type_name names ++ missing_fields es file type_name (texts names) place

-- the names of the entries of an object literal; other literals have none
abbrev pub names_in : Says Span → Vals Span → List (NameOf Span)
names_in (object place) below = entry_names below
names_in (variable name place) below = []
names_in (int text place) below = []
names_in (float text place) below = []
names_in (string text place) below = []
names_in (boolean value place) below = []
names_in (null place) below = []
names_in (enum name) below = []
names_in (list place) below = []

abbrev pub entry_faults : List EntryOf → ℕ → Option Text → Says Span → Vals Span → List Fault
entry_faults es file on (object place) below = field_faults es file on place (entry_names below)
entry_faults es file on (variable name place) below = []
entry_faults es file on (int text place) below = []
entry_faults es file on (float text place) below = []
entry_faults es file on (string text place) below = []
entry_faults es file on (boolean value place) below = []
entry_faults es file on (null place) below = []
entry_faults es file on (enum name) below = []
entry_faults es file on (list place) below = []

-- what is told of a literal itself at a type
abbrev pub type_faults : List EntryOf → ℕ → Expected → Says Span → Vals Span → List Fault
type_faults es file (at_type t) says below =
    if fits es t says then entry_faults es file (input_object_at es t) says below else fault_over file WrongValue (literal_place says) ∷ []
type_faults es file at_any says below = []

-- what is told of a literal itself
abbrev pub own_faults : List EntryOf → ℕ → Expected → Says Span → Vals Span → List Fault
own_faults es file reading says below = repeated_fields file [] (names_in says below) ++ type_faults es file reading says below

-- what is told of literals in a row, and of all that stand in them
abbrev pub faults_in : List EntryOf → ℕ → (Option (NameOf Span) → Expected) → Vals Span → List Fault
faults_in es file read none = []
faults_in es file read (more part below rest) =
    (own_faults es file (read part.key) part.says below ++ faults_in es file (part_at es (read part.key)) below) ++ faults_in es file read rest

-- what is told of a literal, and of all that stand in it
abbrev pub literal_faults : List EntryOf → ℕ → Expected → Val Span → List Fault
literal_faults es file reading value =
    own_faults es file reading value.label.says value.below ++ faults_in es file (part_at es reading) value.below

abbrev pub fits_input_object : Says Span → Bool
fits_input_object says = is_object_literal says || is_variable says || is_null says

-- those of the items of a list literal, and of the values in an object literal, as the code has them
abbrev pub item_faults : List EntryOf → ℕ → Expected → List Value → List Fault
item_faults es file reading values = flat_map (λ v. literal_faults es file reading (value_view v)) values

abbrev pub faults_of_field : List EntryOf → ℕ → Expected → ObjectField → List Fault
faults_of_field es file reading field = literal_faults es file (field_at es reading field.name.text) (value_view field.value)

abbrev pub value_faults : List EntryOf → ℕ → Expected → List ObjectField → List Fault
value_faults es file reading fields = flat_map (faults_of_field es file reading) fields
