-- What is known of a project: what its documents read as, and their type system.
use Rattle.std.specs.Prelude.{◌≡◌, ◌++◌, true, false, List, Bool}
use Rattle.gq_project.specs.declared.document.Doc.{Doc}
use Rattle.gq_tree.specs.Readings.{SharedParsed, readings_view}
use Rattle.gq_parse.specs.Parsed.{AreParsed}
use Rattle.gq_types.specs.BuiltIn.{built_in}
use Rattle.gq_types.specs.Entries.{EntryOf}
use Rattle.gq_types.specs.Look.{types_view}
use Rattle.gq_document.specs.Definitions.{entries_of}
use Rattle.gq_schema.specs.SchemaOf.{HasNoFault}
use Rattle.gq_known.specs.declared.known.Known.{Known}
use Rattle.gq_known.specs.declared.learned.Learned.{Learned}

-- The documents read so, this is their type system, and the flag tells whether no rule of it is broken (section 3).
pub record AreKnown (documents : List Doc) (readings : List SharedParsed) (es : List EntryOf) (has_schema : Bool) : Type 0 where
  pub are_readings : AreParsed documents (readings_view readings)
  pub is_type_system : es ≡ built_in ++ entries_of (readings_view readings)
  pub sound : has_schema ≡ true → HasNoFault es
  pub faulty : has_schema ≡ false → HasNoFault es → ⊥

-- what is lent is so
abbrev pub IsKnown : Known → Type 0
IsKnown known = AreKnown known.project.now known.readings.now (types_view known.types.now) known.has_schema

-- what was learned of documents is so
abbrev pub IsLearned : List Doc → Learned → Type 0
IsLearned documents learned = AreKnown documents learned.readings.items (types_view learned.types) learned.has_schema
