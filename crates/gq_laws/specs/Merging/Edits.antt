-- Fields that merge (section 5.3.2) where a spread is inlined, and where the braces of an inline fragment go.
use Rattle.std.specs.Prelude.{◌≡◌, ℕ, List, Option, Some, map, Contains}
use Rattle.gq_text.specs.declared.place.Span.{Span}
use Rattle.gq_tree.specs.Plain.{erase_document}
use Rattle.gq_tree.specs.Readings.{ParsedOf, definitions_read}
use Rattle.gq_types.specs.Entries.{Text}
use Rattle.gq_types.specs.Roots.{root_of}
use Rattle.gq_document.specs.Definitions.{OperationOf, FragmentOf, entries_of, operations_of, fragments_of}
use Rattle.gq_meaning.specs.Expand.{find_definition}
use Rattle.gq_rewritten.specs.Rewrites.{Rewrite, rewritten_from}
use Rattle.gq_merging.specs.FieldsMerge.{IsMergingFault}
use Rattle.gq_rules.specs.Project.{type_system_of, executable_of}
use Rattle.gq_laws.specs.Rewriting.Documents.{AreSound}
use Rattle.gq_laws.specs.Rewriting.Edits.{SpreadAt, inlining, CanInline, removal, CanRemove}
use Rattle.gq_laws.specs.Rewriting.Statics.{static_of, roots_in, seen_fragment}
use Rattle.gq_laws.specs.Placing.Types.{IsFaultless}

-- The types are the same, and the trees of the second project are those of the first, rewritten, places forgotten. Each operation
-- of the first has a root type, and no two fragments of the second have one name.
pub record IsMadeBy (r : Rewrite) (before after : List ParsedOf) : Type 0 where
  pub entries : entries_of before ≡ entries_of after
  pub is : map erase_document (map definitions_read after) ≡ rewritten_from r 0 (map definitions_read before)
  pub rooted : (o : OperationOf) → Contains (operations_of before) o → (t : Text) × (root_of (type_system_of before) o.kind ≡ Some t)
  pub found : (g : FragmentOf) → Contains (fragments_of after) g → find_definition (map seen_fragment (fragments_of after)) g.name.text ≡ Some (seen_fragment g)

-- the parents of selections are known, and the fragments that are spread
abbrev pub AreKnown : List ParsedOf → Type 0
AreKnown before = AreSound (static_of (type_system_of before)) (roots_in (type_system_of before)) (map definitions_read before)

-- Where all fields merge, they do so after a spread is inlined.
abbrev pub InlinedFieldsMerge : Type 0
InlinedFieldsMerge = (before after : List ParsedOf) (old : Option Text) (s : SpreadAt) → IsMadeBy (inlining s) before after → AreKnown before →
    CanInline (static_of (type_system_of before)) (roots_in (type_system_of before)) (map definitions_read before) old s → IsFaultless IsMergingFault (executable_of before) → IsFaultless IsMergingFault (executable_of after)

-- So they do after an inline fragment that says nothing loses its braces.
abbrev pub FieldsOutOfBracesMerge : Type 0
FieldsOutOfBracesMerge = (before after : List ParsedOf) (file : ℕ) (place : Span) → IsMadeBy (removal file place) before after → AreKnown before →
    CanRemove (static_of (type_system_of before)) (roots_in (type_system_of before)) (map definitions_read before) file place → IsFaultless IsMergingFault (executable_of before) → IsFaultless IsMergingFault (executable_of after)
