-- A project in which selections were moved into fragments or out of them: what merged before merges after.
use Rattle.std.specs.Prelude.{◌≡◌, List, Some, map, Contains}
use Rattle.gq_text.specs.declared.place.Span.{Span}
use Rattle.gq_tree.specs.Plain.{Sels}
use Rattle.gq_meaning.specs.Selected.{set_of}
use Rattle.gq_meaning.specs.Expand.{Definition, find_definition}
use Rattle.gq_meaning.specs.Rewritten.{Rewritten, AreKept}
use Rattle.gq_types.specs.Entries.{Text}
use Rattle.gq_types.specs.Roots.{root_of}
use Rattle.gq_document.specs.Definitions.{OperationOf, FragmentOf}
use Rattle.gq_document.specs.Executable.{ExecutableOf}
use Rattle.gq_document.specs.FieldSets.{SetOf, FieldAt, InSet, Stands}
use Rattle.gq_merging.specs.FieldsMerge.{IsMergingFault}
use Rattle.gq_laws.specs.Rewriting.Statics.{static_of, seen_fragment}
use Rattle.gq_laws.specs.Placing.Types.{IsFaultless}

-- the fragments, places forgotten
abbrev pub definitions : ExecutableOf → List Definition
definitions x = map seen_fragment x.fragments

-- Selections after, where the parent has that type, stand for selections before, each field of which stands in one set.
pub record HasOrigin (before after : ExecutableOf) (type_name : Text) (new : Sels Span) : Type 0 where
  pub old : Sels Span
  pub set : SetOf
  pub stands : Stands before set
  pub each : (a : FieldAt) → InSet before (record { file = set.file; parent = Some type_name; selections = old }) a → InSet before set a
  pub stand_for : Rewritten (static_of before.entries) (definitions before) (definitions after) type_name (set_of old) (set_of new)

-- So do those of each operation and of each fragment, also of one that is new. No two fragments after have one name.
pub record IsRewritten (before after : ExecutableOf) : Type 0 where
  pub entries : after.entries ≡ before.entries
  pub operations : (o : OperationOf) → Contains after.operations o → (root : Text) × (root_of after.entries o.kind ≡ Some root) × HasOrigin before after root o.set
  pub fragments : (g : FragmentOf) → Contains after.fragments g → HasOrigin before after g.on.text g.set
  pub found : (g : FragmentOf) → Contains after.fragments g → find_definition (definitions after) g.name.text ≡ Some (seen_fragment g)
  pub kept : AreKept (static_of before.entries) (definitions before) (definitions after)

-- Then all fields merge after where they did before.
abbrev pub RewrittenFieldsMerge : Type 0
RewrittenFieldsMerge = (before after : ExecutableOf) → IsRewritten before after → IsFaultless IsMergingFault before → IsFaultless IsMergingFault after
