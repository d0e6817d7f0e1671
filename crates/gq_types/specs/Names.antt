-- What is found under the names of types, fields, values and directives. Of doubles the first is meant.
use Rattle.std.specs.Prelude.{Bool, false, List, Option, find, option_and_then}
use Rattle.std.specs.Option.{option_map, option_map_or}
use Rattle.std.specs.List.{list_any}
use Rattle.std.specs.Str.{bytes_eq}
use Rattle.gq_text.specs.declared.place.Span.{Span}
use Rattle.gq_tree.specs.Plain.{InputOf, FieldDefinitionOf, TypeSystemOf}
use Rattle.gq_types.specs.Entries.{Text, EntryOf}
use Rattle.gq_types.specs.Joined.{type_number, is_directive_named, fields_of, interfaces_of, members_of, values_of, inputs_of}

-- the field of that name of the type of that name (section 3.6)
abbrev pub field_named : List EntryOf → (type_name text : Text) → Option (FieldDefinitionOf Span)
field_named es type_name text =
    option_and_then (λ number. option_map (λ f. f.it) (find (λ f. bytes_eq text f.it.name.text) (fields_of es number))) (type_number es type_name)

-- the input field of that name of the input object of that name (section 3.10)
abbrev pub input_named : List EntryOf → (type_name text : Text) → Option (InputOf Span)
input_named es type_name text =
    option_and_then (λ number. option_map (λ i. i.it) (find (λ i. bytes_eq text i.it.name.text) (inputs_of es number))) (type_number es type_name)

-- whether the enum of that name has the value (section 3.9)
abbrev pub has_value : List EntryOf → (type_name text : Text) → Bool
has_value es type_name text = option_map_or (λ number. list_any (λ v. bytes_eq text v.it.name.text) (values_of es number)) (type_number es type_name) false

-- whether the union of that name has the member (section 3.8)
abbrev pub has_member : List EntryOf → (type_name text : Text) → Bool
has_member es type_name text = option_map_or (λ number. list_any (λ m. bytes_eq text m.it.text) (members_of es number)) (type_number es type_name) false

-- whether the type of that name declares that it implements the interface (sections 3.6 and 3.7)
abbrev pub declares : List EntryOf → (type_name text : Text) → Bool
declares es type_name text = option_map_or (λ number. list_any (λ i. bytes_eq text i.it.text) (interfaces_of es number)) (type_number es type_name) false

-- the directive of that name (section 3.13)
abbrev pub directive_named : List EntryOf → Text → Option (TypeSystemOf Span)
directive_named es text = option_map (λ e. e.definition) (find (λ e. is_directive_named text e.definition) es)

-- the argument of that name among those of a field or of a directive (section 3.6.1)
abbrev pub argument_named : List (InputOf Span) → Text → Option (InputOf Span)
argument_named arguments text = find (λ a. bytes_eq text a.name.text) arguments
