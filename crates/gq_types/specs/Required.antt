-- Arguments and input fields that must be given (sections 3.6.1 and 3.10), and those of them that are not given.
use Rattle.std.specs.Prelude.{Bool, false, List, map, is_none, not, ◌&&◌}
use Rattle.std.specs.Option.{option_map_or}
use Rattle.std.specs.List.{list_any}
use Rattle.std.specs.Str.{bytes_eq}
use Rattle.gq_text.specs.declared.place.Span.{Span}
use Rattle.gq_tree.specs.Plain.{InputOf}
use Rattle.gq_tree.specs.Wrapping.{is_non_null}
use Rattle.gq_types.specs.Entries.{Text, EntryOf}
use Rattle.gq_types.specs.Joined.{type_number, inputs_of}
use Rattle.gq_types.specs.Names.{argument_named}

-- an input field or argument is required if its type has no null and it has no default (sections 3.6.1 and 3.10)
abbrev pub is_required : InputOf Span → Bool
is_required i = is_non_null i.type_ref && is_none i.default

-- whether the one that the name means is required, and not among the given names
abbrev pub is_missing : List (InputOf Span) → (given : List Text) → Text → Bool
is_missing known given text = option_map_or is_required (argument_named known text) false && not (list_any (bytes_eq text) given)

abbrev pub is_missing_by : List (InputOf Span) → (given : List Text) → InputOf Span → Bool
is_missing_by known given i = is_required i && is_missing known given i.name.text

-- whether any of these is required and not among the given names; of doubles the first is meant
abbrev pub is_any_missing : List (InputOf Span) → (given : List Text) → Bool
is_any_missing known given = list_any (is_missing_by known given) known

-- the same of the input fields of the input object of that name, with those of its extensions
abbrev pub is_field_missing : List EntryOf → (type_name : Text) → (given : List Text) → Bool
is_field_missing es type_name given = option_map_or (λ number. is_any_missing (map (λ i. i.it) (inputs_of es number)) given) (type_number es type_name) false
