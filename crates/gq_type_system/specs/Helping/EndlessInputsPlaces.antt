-- What is computed of the ways between input objects, computed.
use Rattle.std.specs.Prelude.{◌≡◌, ℕ, Bool, true, false, List, [], ◌∷◌, ◌||◌, if◌then◌else◌, Option, Some, None, map, flat_map, slice_get, slice_index_or, nat_eq, ◌↔◌, option_and_then}
use Rattle.std.specs.Option.{option_map, option_map_or}
use Rattle.std.specs.declared.vec.Vec.{Vec}
use Rattle.std.specs.declared.alloc.Global.{Global}
use Rattle.gq_text.specs.declared.place.Span.{Span}
use Rattle.gq_fault.specs.declared.code.Code.TheVariants.{EndlessInput}
use Rattle.gq_fault.specs.declared.fault.Fault.{Fault}
use Rattle.std.specs.Borrow.{Bor}
use Rattle.gq_tree.specs.declared.tree.Name.{Name}
use Rattle.gq_tree.specs.Views.{name_of}
use Rattle.gq_tree.specs.Plain.{NameOf, TypeOf, named, list_of, non_null, InputOf, TypeSystemOf, schema, type_definition, directive_definition}
use Rattle.gq_types.specs.Entries.{Text, EntryOf, Numbered, numbered}
use Rattle.gq_types.specs.Joined.{type_number, body_in, inputs_in_body}
use Rattle.gq_types.specs.Look.{joined_numbers}
use Rattle.gq_types.specs.Names.{input_named}
use Rattle.gq_fault.specs.FaultPlaces.{fault_at}
use Rattle.gq_type_system.specs.EndlessInputs.{input_object_in, Way, LeadsByNonNull, InputField, LeadsByDefault}

-- the name that a reference stands for
abbrev pub name_at : Option (Bor Name) → Option (NameOf Span)
name_at o = option_map (λ r. name_of r.now) o

-- the name in a type without null that is no list
abbrev pub name_in : TypeOf Span → Option (NameOf Span)
name_in (named name) = Some name
name_in (list_of item) = None
name_in (non_null inner) = None

abbrev pub required_name : TypeOf Span → Option (NameOf Span)
required_name (named name) = None
required_name (list_of item) = None
required_name (non_null inner) = name_in inner

-- the number of the type that a field leads to by its type without null
abbrev pub one : Option ℕ → List ℕ
one None = []
one (Some number) = number ∷ []

abbrev pub required_number : List EntryOf → InputOf Span → List ℕ
required_number es field = one (option_and_then (λ name. type_number es name.text) (required_name field.type_ref))

-- the same of the input field of that name of the type of that name
abbrev pub required_named : List EntryOf → (type_name text : Text) → List ℕ
required_named es type_name text = option_map_or (required_number es) (input_named es type_name text) []

abbrev pub required_numbers : List EntryOf → (type_name : Text) → List (InputOf Span) → List ℕ
required_numbers es type_name fields = flat_map (λ i. required_named es type_name i.name.text) fields

-- the input fields that the entry of a number says itself
abbrev pub inputs_at : List EntryOf → ℕ → List (InputOf Span)
inputs_at es number = option_map_or (λ e. inputs_in_body (body_in e.definition)) (slice_get es number) []

-- the name of the type that a definition or extension defines or extends
abbrev pub type_name_in : TypeSystemOf Span → Text
type_name_in (schema extends description directives roots place) = []
type_name_in (type_definition extends description name directives body place) = name.text
type_name_in (directive_definition description name arguments repeatable locations place) = []

abbrev pub type_name_at : List EntryOf → ℕ → Text
type_name_at es number = option_map_or (λ e. type_name_in e.definition) (slice_get es number) []

-- what the type of a number leads to
abbrev pub required_at : List EntryOf → (type_name : Text) → ℕ → List ℕ
required_at es type_name number = required_numbers es type_name (inputs_at es number)

abbrev pub required_of : List EntryOf → ℕ → List ℕ
required_of es number = flat_map (required_at es (type_name_at es number)) (joined_numbers es number)

-- a table with a row for each entry
abbrev pub row_items : List (Vec ℕ Global) → List (List ℕ)
row_items rows = map (λ v. v.items) rows

abbrev pub required_rows : List EntryOf → List (List ℕ)
required_rows es = map (λ n. required_of es n.number) (numbered es)

-- the types that lead back to themselves by fields without null are marked
abbrev pub MarksNonNull : List EntryOf → List Bool → Type 0
MarksNonNull es marks = (text : Text) (number : ℕ) → type_number es text ≡ Some number → (slice_index_or marks number false ≡ true) ↔ Way (LeadsByNonNull es) text text

-- the types one of whose input fields leads back to itself by default values are marked
abbrev pub MarksByDefault : List EntryOf → List Bool → Type 0
MarksByDefault es marks = (text : Text) (number : ℕ) → type_number es text ≡ Some number
    → (slice_index_or marks number false ≡ true) ↔ ((field : InputField) × (field.type_name ≡ text) × Way (LeadsByDefault es) field field)

-- the fault of an entry, if it defines an input object, which its name means, and is marked
abbrev pub fault_if : Bool → ℕ → NameOf Span → List Fault
fault_if true file name = fault_at file EndlessInput name ∷ []
fault_if false file name = []

abbrev pub is_number : ℕ → Option ℕ → Bool
is_number number None = false
is_number number (Some other) = nat_eq number other

abbrev pub endless_named : List EntryOf → ℕ → ℕ → Option (NameOf Span) → List Fault
endless_named es file number None = []
endless_named es file number (Some name) = fault_if (is_number number (type_number es name.text)) file name

abbrev pub endless_input : List EntryOf → List Bool → List Bool → Numbered → List Fault
endless_input es by_non_null by_default n =
    if slice_index_or by_non_null n.number false || slice_index_or by_default n.number false
    then endless_named es n.entry.file n.number (input_object_in n.entry.definition) else []

abbrev pub endless_inputs : List EntryOf → List Bool → List Bool → List Fault
endless_inputs es by_non_null by_default = flat_map (endless_input es by_non_null by_default) (numbered es)
