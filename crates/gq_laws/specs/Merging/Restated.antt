-- Fields that merge (section 5.3.2) in a project, and in what an edit makes of it that moves selections into fragments or out of them.
use Rattle.std.specs.Prelude.{◌≡◌, ◌⊎◌, List, Some, map, Contains}
use Rattle.gq_tree.specs.Plain.{erase_document}
use Rattle.gq_tree.specs.Readings.{ParsedOf, definitions_read}
use Rattle.gq_types.specs.Entries.{Text}
use Rattle.gq_types.specs.Roots.{root_of}
use Rattle.gq_document.specs.Definitions.{OperationOf, FragmentOf, entries_of, operations_of, fragments_of}
use Rattle.gq_meaning.specs.Expand.{Definition, find_definition}
use Rattle.gq_merging.specs.FieldsMerge.{IsMergingFault}
use Rattle.gq_rules.specs.Project.{type_system_of, executable_of}
use Rattle.gq_laws.specs.Rewriting.Documents.{Restates}
use Rattle.gq_laws.specs.Rewriting.Statics.{static_of, roots_in, seen_fragment}
use Rattle.gq_laws.specs.Placing.Types.{IsFaultless}
use Rattle.gq_laws.specs.Merging.Rewritten.{HasOrigin}

-- a fragment of that name stood before, on the same type
abbrev pub StoodBefore : List ParsedOf → FragmentOf → Type 0
StoodBefore before g = (d : Definition) × (find_definition (map seen_fragment (fragments_of before)) g.name.text ≡ Some d) × (d.on ≡ g.on.text)

-- The types are the same, and the operations and fragments of the first project become those of the second, places forgotten.
-- Each operation of the first has a root type; no two fragments of the second have one name, and each stood before or selects
-- what stood in one set before.
pub record IsRestated (before after : List ParsedOf) : Type 0 where
  pub entries : entries_of before ≡ entries_of after
  pub restates : Restates (static_of (type_system_of before)) (roots_in (type_system_of before)) (map definitions_read before) (map erase_document (map definitions_read after))
  pub rooted : (o : OperationOf) → Contains (operations_of before) o → (t : Text) × (root_of (type_system_of before) o.kind ≡ Some t)
  pub found : (g : FragmentOf) → Contains (fragments_of after) g → find_definition (map seen_fragment (fragments_of after)) g.name.text ≡ Some (seen_fragment g)
  pub fragments : (g : FragmentOf) → Contains (fragments_of after) g → StoodBefore before g ⊎ HasOrigin (executable_of before) (executable_of after) g.on.text g.set

-- Then all fields merge after where they did before.
abbrev pub RestatedProjectsMerge : Type 0
RestatedProjectsMerge = (before after : List ParsedOf) → IsRestated before after → IsFaultless IsMergingFault (executable_of before) → IsFaultless IsMergingFault (executable_of after)
