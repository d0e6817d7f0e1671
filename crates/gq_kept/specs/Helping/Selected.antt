-- The names of the fields that are selected in documents, as far as they are known.
use Rattle.std.specs.Prelude.{◌≡◌, ℕ, Bool, false, List, Option, Some, slice_get, slice_index_or}
use Rattle.std.specs.List.{list_any}
use Rattle.std.specs.Str.{bytes_eq}
use Rattle.gq_text.specs.declared.place.Span.{Span}
use Rattle.gq_tree.specs.Plain.{Def, Head}
use Rattle.gq_tree.specs.Readings.{ParsedOf, definitions_read}
use Rattle.gq_types.specs.Entries.{Text}
use Rattle.gq_laws.specs.Placing.OtherFields.{has_selected, selects_in}

-- one of those texts is one of the names
abbrev pub meets : List Text → List Text → Bool
meets names texts = list_any (λ text. list_any (bytes_eq text) names) texts

-- no name is lost from the ones to the others
abbrev pub Grows : List Text → List Text → Type 0
Grows before after = (texts : List Text) → meets after texts ≡ false → meets before texts ≡ false

-- the names are at least those of the fields among these selections
abbrev pub HasNamesIn : List (Head Span) → List Text → Type 0
HasNamesIn heads names = (texts : List Text) → meets names texts ≡ false → list_any (selects_in texts) heads ≡ false

-- so of those that are selected in definitions
abbrev pub HasNamesAmong : List (Def Span) → List Text → Type 0
HasNamesAmong ds names = (texts : List Text) → meets names texts ≡ false → list_any (has_selected texts) ds ≡ false

-- so of a document
abbrev pub HasNamesOf : ParsedOf → List Text → Type 0
HasNamesOf r = HasNamesAmong (definitions_read r)

-- so of each document of which they are known
abbrev pub AreSelected : List ParsedOf → List (Option (List Text)) → Type 0
AreSelected rs lists = (n : ℕ) (r : ParsedOf) (names : List Text) → slice_get rs n ≡ Some r → slice_get lists n ≡ Some (Some names) → HasNamesOf r names

-- a document without a mark selects no field of those names
abbrev pub AreMarkedFor : List Text → List ParsedOf → List Bool → Type 0
AreMarkedFor names rs marks = (n : ℕ) (r : ParsedOf) → slice_get rs n ≡ Some r → slice_index_or marks n false ≡ false → list_any (has_selected names) (definitions_read r) ≡ false
