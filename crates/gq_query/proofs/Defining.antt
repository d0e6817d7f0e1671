-- Where what is named is defined, by what it is.
use Rattle.std.proofs.Common.{◌≡◌, List, Option, sym, subst}
use Rattle.gq_project.specs.declared.document.Doc.{Doc}
use Rattle.gq_types.specs.Entries.{Text}
use Rattle.gq_index.specs.declared.occurrence.Occurrence.{Occurrence}
use Rattle.gq_index.specs.Occurrences.{DefinitionOf}
use Rattle.gq_mentions.specs.declared.mention.MentionKind.{MentionKind}
use Rattle.gq_mentions.specs.declared.mention.MentionKind.TheVariants as kind
use Rattle.gq_mentions.specs.Mentions.{MentionOf}
use Rattle.gq_query.specs.Definitions.{IsDefinitionOf}
use Rattle.gq_query.specs.Hovers.{IsToldOf}
use Rattle.gq_query.specs.Order.{AreExactly}
use Rattle.gq_query.specs.References.{IsDeclaration}

module _ (documents : List Doc) (ds : List DefinitionOf) (m : MentionOf) (found : List Occurrence) where
  abbrev AreOf : MentionKind → Type 0
  AreOf k = AreExactly (IsDeclaration ds k m.name.text m.definition) found → AreExactly (IsDefinitionOf documents ds k m) found

  pub of_fragment : m.kind ≡ kind.Fragment → AreOf m.kind
  of_fragment is = subst AreOf (sym is) (λ e. e)

  pub of_variable : m.kind ≡ kind.Variable → AreOf m.kind
  of_variable is = subst AreOf (sym is) (λ e. e)

-- by its kind
pub of_kind : (documents : List Doc) (ds : List DefinitionOf) (m : MentionOf) (k : MentionKind) (found : List Occurrence) → m.kind ≡ k → AreExactly (IsDefinitionOf documents ds k m) found → AreExactly (IsDefinitionOf documents ds m.kind m) found
of_kind documents ds m k found is e = subst (λ (j : MentionKind). AreExactly (IsDefinitionOf documents ds j m) found) (sym is) e

-- what is told of it
pub told_by_kind : (documents : List Doc) (ds : List DefinitionOf) (m : MentionOf) (k : MentionKind) (told : Option Text) → m.kind ≡ k → IsToldOf documents ds k m told → IsToldOf documents ds m.kind m told
told_by_kind documents ds m k told is e = subst (λ (j : MentionKind). IsToldOf documents ds j m told) (sym is) e
