-- The executable definitions of one document among those of all, and what is named in them.
use Rattle.std.specs.Prelude.{ℕ, ◌+◌, List, [], ◌∷◌, ◌++◌, flat_map, length, slice_get, take}
use Rattle.std.specs.Option.{option_map_or}
use Rattle.gq_text.specs.declared.place.Span.{Span}
use Rattle.gq_tree.specs.Plain.{Def}
use Rattle.gq_tree.specs.Readings.{ParsedOf, SharedParsed, definitions_read, readings_view}
use Rattle.gq_index.specs.Occurrences.{DefinitionOf, executable_in, executables}
use Rattle.gq_mentions.specs.Mentions.{MentionOf, mentions_in}

-- the executable definitions of all documents, of which the code has these readings
abbrev pub all_definitions : List SharedParsed → List DefinitionOf
all_definitions readings = executables (readings_view readings)

-- what the document of that number defines; nothing where there is no such document, or it has no tree
abbrev pub definitions_of : ℕ → List ParsedOf → List (Def Span)
definitions_of file readings = option_map_or definitions_read (slice_get readings file) []

-- its operations and fragments
abbrev pub own_definitions : ℕ → List ParsedOf → List DefinitionOf
own_definitions file readings = flat_map (executable_in file) (definitions_of file readings)

-- the number of its first one: as many stand in the documents before it
abbrev pub first_number : ℕ → List ParsedOf → ℕ
first_number file readings = length (executables (take file readings))

-- what is named in definitions that are numbered from n on
abbrev pub mentions_from : ℕ → List DefinitionOf → List MentionOf
mentions_from n [] = []
mentions_from n (d ∷ ds) = mentions_in n d.definition ++ mentions_from (n + 1) ds
