-- What an index of a project holds.
use Rattle.std.specs.Prelude.{◌≡◌, ◌↔◌, ℕ, List, Some, None, Contains, length, map, slice_get}
use Rattle.gq_names.specs.UnderNames.{items_under}
use Rattle.gq_project.specs.declared.document.Doc.{Doc}
use Rattle.gq_graph.specs.Reach.{row}
use Rattle.gq_graph.specs.Transposed.{Transposed}
use Rattle.gq_tree.specs.Readings.{ParsedOf}
use Rattle.gq_types.specs.Entries.{Text}
use Rattle.gq_index.specs.declared.files.File.{File}
use Rattle.gq_index.specs.declared.index.Variables.{Variables}
use Rattle.gq_index.specs.declared.index.Tables.{Tables}
use Rattle.gq_index.specs.declared.index.Index.{Index}
use Rattle.gq_index.specs.Parts.{parts_in}
use Rattle.gq_index.specs.Seats.{variables_at}
use Rattle.gq_index.specs.Standing.{stands}
use Rattle.gq_index.specs.VariableGroups.{SpreadsFragment}
use Rattle.gq_index.specs.Views.{parts_kept}
use Rattle.gq_index.specs.Occurrences.{DefinitionOf, AreExecutables, is_operation, fragment_definitions, fragment_spreads, fragment_occurrences, definition_places, uses_in, definitions_in}

-- the places of the variables of a definition, by their names
pub record AreVariablesOf (d : DefinitionOf) (v : Variables) : Type 0 where
  pub uses : (text : Text) → items_under v.uses text ≡ uses_in d.definition text
  pub definitions : (text : Text) → items_under v.definitions text ≡ definitions_in d.definition text

-- those of all definitions, by their numbers
pub record AreVariables (ds : List DefinitionOf) (tables : Tables) : Type 0 where
  pub each : (n : ℕ) (d : DefinitionOf) → slice_get ds n ≡ Some d → (v : Variables) × (variables_at tables n ≡ Some v) × AreVariablesOf d v
  pub past : (n : ℕ) → slice_get ds n ≡ None → variables_at tables n ≡ None

-- what the tables hold of these definitions
pub record AreTablesOf (ds : List DefinitionOf) (tables : Tables) : Type 0 where
  pub definitions : (text : Text) → (stands tables.fragments text).definitions ≡ fragment_definitions ds text
  pub spreads : (text : Text) → (stands tables.fragments text).spreads ≡ fragment_spreads ds text
  pub occurrences : (text : Text) → (stands tables.fragments text).occurrences ≡ fragment_occurrences ds text
  pub places : tables.places.items ≡ definition_places ds
  pub variables : AreVariables ds tables
  pub count : length tables.spread_in.items ≡ length ds
  pub spread_in : (n k : ℕ) → Contains (row tables.spread_in.items n) k ↔ SpreadsFragment ds n k
  pub spreading : Transposed tables.spread_in.items tables.spreading.items
  pub operations : tables.operations.items ≡ map (λ d. is_operation d.definition) ds

-- what the index holds of these definitions
pub record IsIndexOf (ds : List DefinitionOf) (index : Index) : Type 0 where
  pub tables : AreTablesOf ds index.tables

-- what is kept of these documents, which are read so, one after the other
pub record AreFilesOf (documents : List Doc) (readings : List ParsedOf) (files : List File) : Type 0 where
  pub keyed : map (λ f. f.key) files ≡ map (λ d. d.key) documents
  pub parted : map parts_kept files ≡ map parts_in readings

-- what the index holds of these documents: of their definitions, and of each document apart
pub record IsIndexOfProject (documents : List Doc) (index : Index) : Type 0 where
  pub definitions : List DefinitionOf
  pub of_documents : AreExecutables documents definitions
  pub is_index : IsIndexOf definitions index
  pub files : AreFilesOf documents of_documents.readings index.files
