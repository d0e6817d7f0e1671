-- What a hover tells (LSP 3.17, "Hover Request").
use Rattle.std.specs.Prelude.{◌≡◌, ℕ, List, Option, Some, None}
use Rattle.std.specs.Option.{option_map}
use Rattle.gq_text.specs.declared.place.Span.{Span}
use Rattle.gq_tree.specs.Plain.{VariableOf}
use Rattle.gq_project.specs.declared.document.Doc.{Doc}
use Rattle.gq_tree.specs.Readings.{ParsedOf}
use Rattle.gq_parse.specs.Parsed.{AreParsed}
use Rattle.gq_types.specs.Entries.{Text}
use Rattle.gq_index.specs.Occurrences.{DefinitionOf, executables}
use Rattle.gq_mentions.specs.declared.mention.MentionKind.{MentionKind}
use Rattle.gq_mentions.specs.declared.mention.MentionKind.TheVariants as kind
use Rattle.gq_mentions.specs.Mentions.{MentionOf}
use Rattle.gq_query.specs.declared.told.Hover.{Hover}
use Rattle.gq_query.specs.Asked.{asked}
use Rattle.gq_query.specs.Groups.{IsFirstInGroup}
use Rattle.gq_query.specs.Schemas.{BySchema}
use Rattle.gq_query.specs.Words.{variable_words, fragment_told, field_told, condition_told}

-- what is told of a variable: its first definition in its group
pub record IsVariableTold (ds : List DefinitionOf) (text : Text) (n : ℕ) (told : Option Text) : Type 0 where
  pub first : Option (VariableOf Span)
  pub is_first : IsFirstInGroup ds text n first
  pub are_words : told ≡ option_map (λ v. variable_words text v.type_ref) first

-- What is told of what is named. Fields and types are told of only where the project has a schema.
abbrev pub IsToldOf : List Doc → List DefinitionOf → MentionKind → MentionOf → Option Text → Type 0
IsToldOf documents ds kind.Fragment m told = told ≡ fragment_told ds m.name.text
IsToldOf documents ds kind.Variable m told = IsVariableTold ds m.name.text m.definition told
IsToldOf documents ds kind.Field m told = BySchema documents (λ es. field_told es ds m) told
IsToldOf documents ds kind.Condition m told = BySchema documents (λ es. condition_told es m.name.text) told

-- the words, at the name token
abbrev pub hover_at : Span → Option Text → Option Hover
hover_at place told = option_map (λ words. record { value = words; span = place }) told

pub record IsHoverOf (documents : List Doc) (ds : List DefinitionOf) (m : MentionOf) (result : Option Hover) : Type 0 where
  pub told : Option Text
  pub is_told : IsToldOf documents ds m.kind m told
  pub shown : result ≡ hover_at m.name.place told

-- at what an offset means; nothing where it means nothing
abbrev pub IsHoverAt : List Doc → List DefinitionOf → Option MentionOf → Option Hover → Type 0
IsHoverAt documents ds None result = result ≡ None
IsHoverAt documents ds (Some m) result = IsHoverOf documents ds m result

-- the answer to a hover at an offset of the document of that key
pub record IsHover (documents : List Doc) (key : List ℕ) (offset : ℕ) (result : Option Hover) : Type 0 where
  pub readings : List ParsedOf
  pub are_readings : AreParsed documents readings
  pub is_hover : IsHoverAt documents (executables readings) (asked documents (executables readings) key offset) result
