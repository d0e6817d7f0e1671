-- The names of required arguments and input fields, as tables have them. No contract of a public call speaks of it.
use Rattle.std.specs.Prelude.{◌≡◌, ℕ, List, [], ◌∷◌, ◌++◌, map, flat_map, length, not, ◌&&◌, if◌then◌else◌}
use Rattle.std.specs.List.{list_any}
use Rattle.std.specs.Str.{bytes_eq}
use Rattle.gq_text.specs.declared.place.Span.{Span}
use Rattle.gq_tree.specs.Plain.{InputOf}
use Rattle.gq_types.specs.Arguments.{argument_texts}
use Rattle.gq_types.specs.declared.argument_names.ArgumentNames.{ArgumentNames}
use Rattle.gq_types.specs.Entries.{Text, EntryOf}
use Rattle.gq_types.specs.Joined.{inputs_in_body, inputs_of}
use Rattle.gq_types.specs.LookUps.{parts_of_entry}
use Rattle.gq_types.specs.Required.{is_required}
use Rattle.gq_types.specs.Helping.Tables.{EachAt}

-- the names of those that are required, each that is the first of its name, where names stand before them
abbrev pub required_after : (before : List Text) → List (InputOf Span) → List Text
required_after before [] = []
required_after before (i ∷ is) =
    (if not (list_any (bytes_eq i.name.text) before) && is_required i then i.name.text ∷ [] else []) ++ required_after (before ++ i.name.text ∷ []) is

-- the input fields of the entries with these numbers
abbrev pub inputs_among : List EntryOf → List ℕ → List (InputOf Span)
inputs_among es numbers = flat_map (λ number. parts_of_entry inputs_in_body es number) numbers

-- for each entry the names of the required input fields of the entries that belong to it
pub record AreRequired (es : List EntryOf) (lists : List (List Text)) : Type 0 where
  pub count : length lists ≡ length es
  pub each : EachAt (λ number names. names ≡ required_after [] (map (λ i. i.it) (inputs_of es number))) lists

-- the names of these arguments, and of the required ones
abbrev pub AreNamesOf : List (InputOf Span) → ArgumentNames → Type 0
AreNamesOf arguments names = (names.all ≡ argument_texts arguments) × (names.required ≡ required_after [] arguments)
