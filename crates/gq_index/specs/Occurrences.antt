-- Where fragments and variables stand in the executable definitions of a project (section 2.2).
use Rattle.std.specs.Prelude.{◌≡◌, ℕ, Bool, true, false, List, [], ◌∷◌, map, filter, slice_get}
use Rattle.std.specs.List.{flat_map}
use Rattle.std.specs.Option.{option_map_or}
use Rattle.std.specs.Str.{bytes_eq}
use Rattle.gq_text.specs.declared.place.Span.{Span}
use Rattle.gq_tree.specs.Plain.{NameOf, TypeSystemOf, schema, type_definition, directive_definition, Def, operation, fragment, type_system}
use Rattle.gq_tree.specs.Names.{spread_names, names_in}
use Rattle.gq_project.specs.declared.document.Doc.{Doc}
use Rattle.gq_parse.specs.Parsed.{AreParsed}
use Rattle.gq_types.specs.Entries.{Text}
use Rattle.gq_tree.specs.Readings.{ParsedOf, in_documents}
use Rattle.gq_index.specs.declared.occurrence.Occurrence.{Occurrence}
use Rattle.gq_index.specs.VariableNames.{used_variables, defined_variables}

-- an operation or a fragment, and the number of its document
pub record DefinitionOf : Type 0 where
  pub file : ℕ
  pub definition : Def Span

abbrev pub executable_in : ℕ → Def Span → List DefinitionOf
executable_in file (operation kind name variables directives set braces place) =
    record { file = file; definition = operation kind name variables directives set braces place } ∷ []
executable_in file (fragment name on directives set braces place) =
    record { file = file; definition = fragment name on directives set braces place } ∷ []
executable_in file (type_system definition) = []

-- all executable definitions, in the order of documents and places; the number of each is its place among them, from 0
abbrev pub executables : List ParsedOf → List DefinitionOf
executables readings = in_documents executable_in readings

-- those of documents
pub record AreExecutables (documents : List Doc) (ds : List DefinitionOf) : Type 0 where
  pub readings : List ParsedOf
  pub are_readings : AreParsed documents readings
  pub is : ds ≡ executables readings

-- whether it is an operation
abbrev pub is_operation : Def Span → Bool
is_operation (operation kind name variables directives set braces place) = true
is_operation (fragment name on directives set braces place) = false
is_operation (type_system definition) = false

-- the name that a fragment is defined under
abbrev pub fragment_name : Def Span → List (NameOf Span)
fragment_name (operation kind name variables directives set braces place) = []
fragment_name (fragment name on directives set braces place) = name ∷ []
fragment_name (type_system definition) = []

-- the names in the spreads of a definition, in the order of the text
abbrev pub spreads_in : Def Span → List (NameOf Span)
spreads_in (operation kind name variables directives set braces place) = spread_names set
spreads_in (fragment name on directives set braces place) = spread_names set
spreads_in (type_system definition) = []

-- the names of that text
abbrev pub called : Text → List (NameOf Span) → List (NameOf Span)
called text names = filter (λ n. bytes_eq text n.text) names

-- where the names of that text stand, among names of a document, and among names of each definition
abbrev pub occurrences_of : ℕ → Text → List (NameOf Span) → List Occurrence
occurrences_of file text names = map (λ n. record { file = file; span = n.place }) (called text names)

abbrev pub occurrences_in : (Def Span → List (NameOf Span)) → Text → List DefinitionOf → List Occurrence
occurrences_in names text ds = flat_map (λ d. occurrences_of d.file text (names d.definition)) ds

-- where the fragment of that name is defined, and where it is spread
abbrev pub fragment_definitions : List DefinitionOf → Text → List Occurrence
fragment_definitions ds text = occurrences_in fragment_name text ds

abbrev pub fragment_spreads : List DefinitionOf → Text → List Occurrence
fragment_spreads ds text = occurrences_in spreads_in text ds

-- where its name stands, at its definitions and in its spreads, in the order of the texts
abbrev pub fragment_occurrences : List DefinitionOf → Text → List Occurrence
fragment_occurrences ds text = occurrences_in names_in text ds

-- the place of all tokens of a definition
abbrev pub type_system_place : TypeSystemOf Span → Span
type_system_place (schema extends description directives roots place) = place
type_system_place (type_definition extends description name directives body place) = place
type_system_place (directive_definition description name arguments repeatable locations place) = place

abbrev pub place_of : Def Span → Span
place_of (operation kind name variables directives set braces place) = place
place_of (fragment name on directives set braces place) = place
place_of (type_system definition) = type_system_place definition

-- where each definition stands
abbrev pub definition_places : List DefinitionOf → List Occurrence
definition_places ds = map (λ d. record { file = d.file; span = place_of d.definition }) ds

-- where these places of a document are in the project
abbrev pub occurrences_in_file : ℕ → List Span → List Occurrence
occurrences_in_file file spans = map (λ s. record { file = file; span = s }) spans

-- where the variable of that name is defined and used in a definition
abbrev pub places_called : Text → List (NameOf Span) → List Span
places_called text names = map (λ n. n.place) (called text names)

abbrev pub uses_in : Def Span → Text → List Span
uses_in d text = places_called text (used_variables d)

abbrev pub definitions_in : Def Span → Text → List Span
definitions_in d text = places_called text (defined_variables d)

-- in the definition of that number; nowhere past the last one
abbrev pub variable_uses : List DefinitionOf → ℕ → Text → List Span
variable_uses ds n text = option_map_or (λ d. uses_in d.definition text) (slice_get ds n) []

abbrev pub variable_definitions : List DefinitionOf → ℕ → Text → List Span
variable_definitions ds n text = option_map_or (λ d. definitions_in d.definition text) (slice_get ds n) []
