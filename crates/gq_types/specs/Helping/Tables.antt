-- What the look-ups of a type system go by. No contract of a public call speaks of it.
use Rattle.std.specs.Prelude.{◌≡◌, ℕ, true, false, ◌+◌, List, [], ◌∷◌, ◌++◌, Option, Some, None, map, length, fold, get_or, slice_get, option_and_then, find, Vec}
use Rattle.std.specs.Option.{option_map, option_map_or, option_or}
use Rattle.gq_text.specs.declared.place.Span.{Span}
use Rattle.gq_tree.specs.declared.tree.OperationKind.{OperationKind}
use Rattle.gq_tree.specs.Same.{same_kinds}
use Rattle.gq_tree.specs.Plain.{BodyOf, TypeSystemOf, schema, type_definition, directive_definition}
use Rattle.gq_types.specs.declared.entry.TypeKind.{TypeKind}
use Rattle.gq_types.specs.declared.table.Table.{Table}
use Rattle.gq_types.specs.declared.parts.Place.{Place}
use Rattle.gq_types.specs.declared.parts.Parts.{Parts}
use Rattle.gq_types.specs.Entries.{Text, EntryOf}
use Rattle.gq_types.specs.Joined.{schema_number, kind_in, body_in, interfaces_in_body, members_in_body, values_in_body, inputs_in_body}
use Rattle.gq_types.specs.Roots.{roots_in}
use Rattle.gq_types.specs.Look.{joined_numbers}

-- the name of the type, and of the directive, that it defines
abbrev pub type_key : TypeSystemOf Span → Option Text
type_key (schema extends description directives roots place) = None
type_key (type_definition true description name directives body place) = None
type_key (type_definition false description name directives body place) = Some name.text
type_key (directive_definition description name arguments repeatable locations place) = None

abbrev pub directive_key : TypeSystemOf Span → Option Text
directive_key (schema extends description directives roots place) = None
directive_key (type_definition extends description name directives body place) = None
directive_key (directive_definition description name arguments repeatable locations place) = Some name.text

-- the directive definition that it is
abbrev pub directive_in : TypeSystemOf Span → Option (TypeSystemOf Span)
directive_in (schema extends description directives roots place) = None
directive_in (type_definition extends description name directives body place) = None
directive_in (directive_definition description name arguments repeatable locations place) =
    Some (directive_definition description name arguments repeatable locations place)

-- what is there, in a list
abbrev pub at_most_one : {A : Type 0} → Option A → List A
at_most_one None = []
at_most_one (Some x) = x ∷ []

-- the names of those entries that have one, and the numbers of these entries
abbrev pub names_in : (TypeSystemOf Span → Option Text) → List EntryOf → List Text
names_in key [] = []
names_in key (e ∷ es) = at_most_one (key e.definition) ++ names_in key es

abbrev pub numbers_in : (TypeSystemOf Span → Option Text) → ℕ → List EntryOf → List ℕ
numbers_in key k [] = []
numbers_in key k (e ∷ es) = at_most_one (option_map (λ text. k) (key e.definition)) ++ numbers_in key (k + 1) es

pub record AreNames (key : TypeSystemOf Span → Option Text) (es : List EntryOf) (table : Table ℕ) : Type 0 where
  pub names : table.names ≡ names_in key es
  pub numbers : table.values.items ≡ numbers_in key 0 es

pub record AreDefinitions (es : List EntryOf) (types directives : Table ℕ) (kinds : List (Option TypeKind)) (schema : ℕ) : Type 0 where
  pub types_are : AreNames type_key es types
  pub directives_are : AreNames directive_key es directives
  pub kinds_are : kinds ≡ map (λ e. kind_in e.definition) es
  pub schema_is : schema ≡ schema_number es

-- the lists of a list of lists
abbrev pub lists_of : {A Z : Type 0} → List (Vec A Z) → List (List A)
lists_of vs = map (λ v. v.items) vs

-- for each number the numbers of the entries that belong to it
abbrev pub AreJoined : List EntryOf → List (List ℕ) → Type 0
AreJoined es lists = (number : ℕ) → get_or lists number [] ≡ joined_numbers es number

-- the places of so many parts of an entry, the first of which is given
abbrev pub places_from : {A : Type 0} → (entry index : ℕ) → List A → List Place
places_from entry index [] = []
places_from entry index (x ∷ xs) = record { entry = entry; index = index } ∷ places_from entry (index + 1) xs

-- the parts of a type with its extensions, but for its fields: the names of each, and the places of input fields
pub record Lists : Type 0 where
  pub input_names : List Text
  pub input_places : List Place
  pub values : List Text
  pub members : List Text
  pub interfaces : List Text

abbrev pub no_parts : Lists
no_parts = record { input_names = []; input_places = []; values = []; members = []; interfaces = [] }

-- those of one more entry
abbrev pub add_body : Lists → ℕ → BodyOf Span → Lists
add_body l number body = record {
  input_names = l.input_names ++ map (λ i. i.name.text) (inputs_in_body body);
  input_places = l.input_places ++ places_from number 0 (inputs_in_body body);
  values = l.values ++ map (λ v. v.name.text) (values_in_body body);
  members = l.members ++ map (λ m. m.text) (members_in_body body);
  interfaces = l.interfaces ++ map (λ i. i.text) (interfaces_in_body body);
}

abbrev pub add_entry : List EntryOf → Lists → ℕ → Lists
add_entry es l number = option_map_or (λ e. add_body l number (body_in e.definition)) (slice_get es number) l

abbrev pub parts_at : List EntryOf → List ℕ → Lists
parts_at es numbers = fold (add_entry es) no_parts numbers

abbrev pub lists_in : Parts → Lists
lists_in p = record {
  input_names = p.inputs.names;
  input_places = p.inputs.values.items;
  values = p.values;
  members = p.members;
  interfaces = p.interfaces;
}

-- what holds of each item and its place
abbrev pub EachAt : {A : Type 0} → (ℕ → A → Type 0) → List A → Type 0
EachAt {A} P xs = (i : ℕ) (x : A) → slice_get xs i ≡ Some x → P i x

-- for each entry its parts with those of its extensions
pub record AreParts (es : List EntryOf) (parts : List Parts) : Type 0 where
  pub count : length parts ≡ length es
  pub each : EachAt (λ i p. lists_in p ≡ parts_at es (joined_numbers es i)) parts

-- the part at a place
abbrev pub stands_at : {A : Type 0} → (BodyOf Span → List A) → List EntryOf → Place → Option A
stands_at parts es place = option_and_then (λ e. slice_get (parts (body_in e.definition)) place.index) (slice_get es place.entry)

-- what the first entry for a kind of operation names, in the schema definition or extension with a number, and in several
abbrev pub root_at : List EntryOf → OperationKind → ℕ → Option Text
root_at es kind number =
    option_and_then (λ e. option_map (λ r. r.name.text) (find (λ r. same_kinds kind r.kind) (roots_in e.definition))) (slice_get es number)

abbrev pub first_root_at : List EntryOf → OperationKind → List ℕ → Option Text
first_root_at es kind [] = None
first_root_at es kind (n ∷ ns) = option_or (root_at es kind n) (first_root_at es kind ns)
