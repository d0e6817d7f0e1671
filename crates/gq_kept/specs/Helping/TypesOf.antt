-- The type system of documents that are read so.
use Rattle.std.specs.Prelude.{◌≡◌, ◌++◌, Bool, true, false, List, map}
use Rattle.gq_tree.specs.Readings.{ParsedOf, in_document}
use Rattle.gq_types.specs.BuiltIn.{built_in}
use Rattle.gq_types.specs.Entries.{EntryOf}
use Rattle.gq_types.specs.ErasedEntries.{erase_entry}
use Rattle.gq_types.specs.Look.{types_view}
use Rattle.gq_document.specs.Definitions.{entry_in, entries_of}
use Rattle.gq_schema.specs.SchemaOf.{HasNoFault}
use Rattle.gq_by_file.specs.OneFile.Laws.{AreAlikeToRules, AreOneTypeSystem}
use Rattle.gq_kept.specs.declared.typed.Typed.{Typed}

-- what one document defines, as if it were the first one
abbrev pub types_defined : ParsedOf → List EntryOf
types_defined reading = in_document entry_in 0 reading

-- it is the type system of the documents, and the flag tells whether no rule of it is broken
pub record AreTypesOf (readings : List ParsedOf) (made : Typed) : Type 0 where
  pub is_type_system : types_view made.types ≡ built_in ++ entries_of readings
  pub sound : made.has_schema ≡ true → HasNoFault (types_view made.types)
  pub faulty : made.has_schema ≡ false → HasNoFault (types_view made.types) → ⊥

-- the flag tells whether no rule of the type system is broken
abbrev pub Tells : Bool → List EntryOf → Type 0
Tells holds es = (holds ≡ true → HasNoFault es) × (holds ≡ false → HasNoFault es → ⊥)

-- so of the type system of documents that are read so
abbrev pub TellsOf : Bool → List ParsedOf → Type 0
TellsOf holds readings = Tells holds (built_in ++ entries_of readings)

-- it is the type system of the documents but for places
abbrev pub IsSameOf : Typed → List ParsedOf → Type 0
IsSameOf typed readings = map erase_entry (types_view typed.types) ≡ map erase_entry (built_in ++ entries_of readings)

-- both define the same of the type system, whatever the numbers of their documents are
abbrev pub IsOneTypeSystem : List ParsedOf → List ParsedOf → Type 0
IsOneTypeSystem readings others = AreOneTypeSystem (built_in ++ entries_of readings) (built_in ++ entries_of others)

-- no rule of operations and fragments tells what the ones define of the type system from what the others do
abbrev pub DefineAlike : List ParsedOf → List ParsedOf → Type 0
DefineAlike readings others = AreAlikeToRules (built_in ++ entries_of readings) (built_in ++ entries_of others)
