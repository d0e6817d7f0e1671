-- The names of the fields of a type, computed.
use Rattle.std.specs.Prelude.{ℕ, List, [], ◌∷◌, ◌++◌, flat_map, if◌then◌else◌}
use Rattle.std.specs.Option.{option_map_or}
use Rattle.std.specs.Str.{bytes_eq}
use Rattle.gq_types.specs.Entries.{Text, EntryOf}
use Rattle.gq_types.specs.Joined.{type_number, fields_in_body}
use Rattle.gq_types.specs.Look.{joined_numbers}
use Rattle.gq_types.specs.LookUps.{parts_of_entry}
use Rattle.gq_document.specs.Selections.{typename, is_composite_named}

-- the name of a field that is defined
abbrev pub own_name : Text → List Text
own_name text = if bytes_eq text typename then [] else text ∷ []

-- those of an entry, and of a type with its extensions
abbrev pub own_names_at : List EntryOf → ℕ → List Text
own_names_at es number = flat_map (λ f. own_name f.name.text) (parts_of_entry fields_in_body es number)

abbrev pub own_names : List EntryOf → ℕ → List Text
own_names es number = flat_map (own_names_at es) (joined_numbers es number)

-- and what every composite type has
abbrev pub typename_on : List EntryOf → Text → List Text
typename_on es type_name = if is_composite_named es type_name then typename ∷ [] else []

abbrev pub names_on : List EntryOf → Text → List Text
names_on es type_name = typename_on es type_name ++ option_map_or (own_names es) (type_number es type_name) []
