-- A refactoring that is asked for, of a range of a document.
use Rattle.std.specs.Prelude.{◌≡◌, ℕ, List, [], Some, position, slice_get}
use Rattle.std.specs.Option.{option_map_or}
use Rattle.gq_text.specs.declared.place.Span.{Span}
use Rattle.gq_tree.specs.Plain.{Def}
use Rattle.gq_project.specs.declared.document.Doc.{Doc}
use Rattle.gq_project.specs.Documents.{has_key}
use Rattle.gq_tree.specs.Readings.{ParsedOf, definitions_read}

-- the key of a document, and a range of its text, in bytes, its end left out
pub record RangeAsk : Type 0 where
  pub key : List ℕ
  pub range : Span

-- the document of that key, and its number
pub record IsAskedOf (documents : List Doc) (key : List ℕ) (file : ℕ) (document : Doc) : Type 0 where
  pub is_at : position (has_key key) documents ≡ Some file
  pub stands : slice_get documents file ≡ Some document

-- the definitions of the document of that number, as it is read
abbrev pub tree_at : List ParsedOf → ℕ → List (Def Span)
tree_at readings file = option_map_or definitions_read (slice_get readings file) []
