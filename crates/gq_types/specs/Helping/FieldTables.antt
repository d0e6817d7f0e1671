-- The tables of the fields of types. No contract of a public call speaks of it.
use Rattle.std.specs.Prelude.{◌≡◌, ℕ, List, [], ◌∷◌, Option, Some, None, Box, map, flat_map, length}
use Rattle.std.specs.declared.alloc.Global.{Global}
use Rattle.gq_types.specs.declared.parts.Place.{Place}
use Rattle.gq_types.specs.declared.table.Table.{Table}
use Rattle.gq_types.specs.Entries.{Text, EntryOf}
use Rattle.gq_types.specs.Joined.{fields_in_body}
use Rattle.gq_types.specs.Look.{joined_numbers}
use Rattle.gq_types.specs.LookUps.{parts_of_entry}
use Rattle.gq_types.specs.Helping.Tables.{places_from, EachAt}

-- the names and the places of the fields of the entries with these numbers
abbrev pub field_names_at : List EntryOf → List ℕ → List Text
field_names_at es numbers = flat_map (λ k. map (λ f. f.name.text) (parts_of_entry fields_in_body es k)) numbers

abbrev pub field_places_at : List EntryOf → List ℕ → List Place
field_places_at es numbers = flat_map (λ k. places_from k 0 (parts_of_entry fields_in_body es k)) numbers

pub record IsTableOf (es : List EntryOf) (numbers : List ℕ) (table : Table Place) : Type 0 where
  pub names : table.names ≡ field_names_at es numbers
  pub places : table.values.items ≡ field_places_at es numbers

-- what is kept for the entry with that number, to which those with these numbers belong: a table of their fields, or none, where
-- it is the only one
abbrev pub IsKeptFor : List EntryOf → (number : ℕ) → (numbers : List ℕ) → Option (Box (Table Place) Global) → Type 0
IsKeptFor es number numbers None = numbers ≡ number ∷ []
IsKeptFor es number numbers (Some table) = IsTableOf es numbers table.value

pub record AreFieldTables (es : List EntryOf) (tables : List (Option (Box (Table Place) Global))) : Type 0 where
  pub count : length tables ≡ length es
  pub each : EachAt (λ number table. IsKeptFor es number (joined_numbers es number) table) tables
