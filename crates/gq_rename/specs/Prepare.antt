-- What would be renamed at an offset (LSP 3.17, "Prepare Rename Request").
use Rattle.std.specs.Prelude.{◌≡◌, ℕ, List, Option}
use Rattle.std.specs.Option.{option_map}
use Rattle.gq_text.specs.declared.place.Span.{Span}
use Rattle.gq_project.specs.declared.document.Doc.{Doc}
use Rattle.gq_tree.specs.Readings.{ParsedOf}
use Rattle.gq_parse.specs.Parsed.{AreParsed}
use Rattle.gq_rename.specs.Asks.{target_of}

-- the name token of the target of the offset in the document of that key; none where there is no target
pub record IsPrepared (documents : List Doc) (key : List ℕ) (offset : ℕ) (result : Option Span) : Type 0 where
  pub readings : List ParsedOf
  pub are_readings : AreParsed documents readings
  pub is_token : result ≡ option_map (λ t. t.name.span) (target_of documents readings key offset)
