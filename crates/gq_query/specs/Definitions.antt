-- Where what is named is defined (LSP 3.17, "Goto Definition Request").
use Rattle.std.specs.Prelude.{ℕ, List, Some}
use Rattle.gq_project.specs.declared.document.Doc.{Doc}
use Rattle.gq_tree.specs.Readings.{ParsedOf}
use Rattle.gq_parse.specs.Parsed.{AreParsed}
use Rattle.gq_index.specs.declared.occurrence.Occurrence.{Occurrence}
use Rattle.gq_index.specs.Occurrences.{DefinitionOf, executables}
use Rattle.gq_mentions.specs.declared.mention.MentionKind.{MentionKind}
use Rattle.gq_mentions.specs.declared.mention.MentionKind.TheVariants as kind
use Rattle.gq_mentions.specs.Mentions.{MentionOf}
use Rattle.gq_query.specs.Asked.{AtMention}
use Rattle.gq_query.specs.Order.{AreExactly}
use Rattle.gq_query.specs.Places.{defined_field_place, type_place}
use Rattle.gq_query.specs.References.{IsDeclaration}
use Rattle.gq_query.specs.Schemas.{BySchema}

-- it is defined there; a field or a type only where the project has a schema
abbrev pub IsDefinitionOf : List Doc → List DefinitionOf → MentionKind → MentionOf → Occurrence → Type 0
IsDefinitionOf documents ds kind.Fragment m o = IsDeclaration ds kind.Fragment m.name.text m.definition o
IsDefinitionOf documents ds kind.Variable m o = IsDeclaration ds kind.Variable m.name.text m.definition o
IsDefinitionOf documents ds kind.Field m o = BySchema documents (λ es. defined_field_place es ds m) (Some o)
IsDefinitionOf documents ds kind.Condition m o = BySchema documents (λ es. type_place es m.name.text) (Some o)

-- the definitions of what the offset means in the document of that key; none where it means nothing
pub record AreDefinitions (documents : List Doc) (key : List ℕ) (offset : ℕ) (found : List Occurrence) : Type 0 where
  pub readings : List ParsedOf
  pub are_readings : AreParsed documents readings
  pub exactly : AreExactly (λ o. AtMention documents (executables readings) key offset (λ m. IsDefinitionOf documents (executables readings) m.kind m o)) found
