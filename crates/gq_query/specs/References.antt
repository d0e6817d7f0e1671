-- Where fragments and variables are declared and used (LSP 3.17, "Find References Request").
use Rattle.std.specs.Prelude.{ℕ, Bool, List, Contains, IsTrue, ◌⊎◌}
use Rattle.gq_project.specs.declared.document.Doc.{Doc}
use Rattle.gq_tree.specs.Readings.{ParsedOf}
use Rattle.gq_parse.specs.Parsed.{AreParsed}
use Rattle.gq_types.specs.Entries.{Text}
use Rattle.gq_index.specs.declared.occurrence.Occurrence.{Occurrence}
use Rattle.gq_index.specs.VariableNames.{used_variables, defined_variables}
use Rattle.gq_index.specs.Occurrences.{DefinitionOf, executables, fragment_definitions, fragment_spreads}
use Rattle.gq_mentions.specs.declared.mention.MentionKind.{MentionKind}
use Rattle.gq_mentions.specs.declared.mention.MentionKind.TheVariants as kind
use Rattle.gq_mentions.specs.Mentions.{MentionOf}
use Rattle.gq_query.specs.Asked.{AtMention}
use Rattle.gq_query.specs.Groups.{StandsInGroup}
use Rattle.gq_query.specs.Order.{AreExactly}

-- What is called so in the definition of that number is used there: a fragment in a spread (section 2.8), a variable in a
-- definition of its group (section 5.8.3). Of fields and types no uses are told.
abbrev pub IsUse : List DefinitionOf → MentionKind → Text → ℕ → Occurrence → Type 0
IsUse ds kind.Fragment text n o = Contains (fragment_spreads ds text) o
IsUse ds kind.Variable text n o = StandsInGroup used_variables ds text n o
IsUse ds kind.Field text n o = ⊥
IsUse ds kind.Condition text n o = ⊥

-- it is declared there: a fragment by each definition of its name, a variable by each of its name in its group
abbrev pub IsDeclaration : List DefinitionOf → MentionKind → Text → ℕ → Occurrence → Type 0
IsDeclaration ds kind.Fragment text n o = Contains (fragment_definitions ds text) o
IsDeclaration ds kind.Variable text n o = StandsInGroup defined_variables ds text n o
IsDeclaration ds kind.Field text n o = ⊥
IsDeclaration ds kind.Condition text n o = ⊥

-- a use of it, or a declaration where these are asked for too
abbrev pub IsReference : List DefinitionOf → Bool → MentionOf → Occurrence → Type 0
IsReference ds declared m o = IsUse ds m.kind m.name.text m.definition o ⊎ (IsTrue declared × IsDeclaration ds m.kind m.name.text m.definition o)

-- the references to what the offset means in the document of that key; none where it means nothing
pub record AreReferences (documents : List Doc) (key : List ℕ) (offset : ℕ) (declared : Bool) (found : List Occurrence) : Type 0 where
  pub readings : List ParsedOf
  pub are_readings : AreParsed documents readings
  pub exactly : AreExactly (λ o. AtMention documents (executables readings) key offset (λ m. IsReference (executables readings) declared m o)) found
