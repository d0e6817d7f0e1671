-- Look-ups as the code makes them.
use Rattle.std.specs.Prelude.{ℕ, Bool, List, [], ◌∷◌, ◌++◌, Option, None, find, flat_map, bytes_eq, slice_get, option_and_then, if◌then◌else◌}
use Rattle.std.specs.Option.{option_map, option_map_or, option_or}
use Rattle.gq_text.specs.declared.place.Span.{Span}
use Rattle.gq_tree.specs.Plain.{NameOf, FieldDefinitionOf, Def}
use Rattle.gq_types.specs.Entries.{Text, EntryOf}
use Rattle.gq_types.specs.Joined.{fields_in_body}
use Rattle.gq_types.specs.LookUps.{parts_of_entry}
use Rattle.gq_index.specs.declared.occurrence.Occurrence.{Occurrence}
use Rattle.gq_index.specs.Occurrences.{DefinitionOf, occurrences_of}
use Rattle.gq_index.specs.VariableNames.{used_variables, defined_variables}

-- the first that is something
abbrev pub first_of : {X A : Type 0} → (X → Option A) → List X → Option A
first_of f [] = None
first_of f (x ∷ xs) = option_or (f x) (first_of f xs)

-- the field of that name among these of a document
abbrev pub field_place_in : ℕ → Text → List (FieldDefinitionOf Span) → Option Occurrence
field_place_in file text fields = option_map (λ f. record { file = file; span = f.name.place }) (find (λ f. bytes_eq text f.name.text) fields)

-- that in the definition or extension of that number
abbrev pub field_places_at : List EntryOf → Text → ℕ → Option Occurrence
field_places_at es text number = option_and_then (λ e. field_place_in e.file text (parts_of_entry fields_in_body es number)) (slice_get es number)

-- where the name stands among some names of the definition of that number
abbrev pub places_at : (Def Span → List (NameOf Span)) → List DefinitionOf → Text → ℕ → List Occurrence
places_at names ds text number = option_map_or (λ d. occurrences_of d.file text (names d.definition)) (slice_get ds number) []

-- and of the definitions of these numbers
abbrev pub places_among : (Def Span → List (NameOf Span)) → List DefinitionOf → Text → List ℕ → List Occurrence
places_among names ds text numbers = flat_map (places_at names ds text) numbers

-- those that are wanted
abbrev pub if_wanted : Bool → List Occurrence → List Occurrence
if_wanted wanted places = if wanted then places else []

-- the wanted places of a variable in the definition of that number
abbrev pub wanted_at : List DefinitionOf → Text → (uses declarations : Bool) → ℕ → List Occurrence
wanted_at ds text uses declarations number = if_wanted uses (places_at used_variables ds text number) ++ if_wanted declarations (places_at defined_variables ds text number)

-- and in the definitions of these numbers
abbrev pub wanted_among : List DefinitionOf → Text → (uses declarations : Bool) → List ℕ → List Occurrence
wanted_among ds text uses declarations numbers = flat_map (wanted_at ds text uses declarations) numbers
