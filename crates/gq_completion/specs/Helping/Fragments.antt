-- The names of the fragments of documents, computed.
use Rattle.std.specs.Prelude.{List, [], ◌∷◌, flat_map}
use Rattle.gq_text.specs.declared.place.Span.{Span}
use Rattle.gq_tree.specs.Plain.{Def, operation, fragment, type_system}
use Rattle.gq_tree.specs.Readings.{ParsedOf, definitions_read}
use Rattle.gq_types.specs.Entries.{Text}

-- the name of the fragment that a definition defines
abbrev pub fragment_name : Def Span → List Text
fragment_name (operation kind name variables directives set braces place) = []
fragment_name (fragment name on directives set braces place) = name.text ∷ []
fragment_name (type_system definition) = []

-- those of a text that reads so
abbrev pub fragments_in : ParsedOf → List Text
fragments_in reading = flat_map fragment_name (definitions_read reading)
