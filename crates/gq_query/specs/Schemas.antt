-- What is told by the schema of a project.
use Rattle.std.specs.Prelude.{◌≡◌, List, Option, None}
use Rattle.gq_project.specs.declared.document.Doc.{Doc}
use Rattle.gq_types.specs.Entries.{EntryOf}
use Rattle.gq_schema.specs.SchemaOf.{IsTypeSystemOf, HasNoFault}

-- What the type system of the documents tells, where no rule of section 3 is broken; else nothing is told.
pub data BySchema {A : Type 0} (documents : List Doc) (tells : List EntryOf → Option A) (told : Option A) : Type 0 where
  of_schema : {es : List EntryOf} → IsTypeSystemOf documents es → HasNoFault es → told ≡ tells es → BySchema documents tells told
  of_none : ((es : List EntryOf) → IsTypeSystemOf documents es → HasNoFault es → ⊥) → told ≡ None → BySchema documents tells told
