-- Executable definitions that are equal but for their places.
use Rattle.std.specs.Prelude.{◌≡◌, ℕ, List, map}
use Rattle.gq_fault.specs.declared.fault.Fault.{Fault}
use Rattle.gq_tree.specs.Plain.{Def, operation, fragment, place_def, no_place, erase_document}
use Rattle.gq_tree.specs.Readings.{ParsedOf, definitions_read}
use Rattle.gq_types.specs.Entries.{EntryOf}
use Rattle.gq_document.specs.Definitions.{OperationOf, FragmentOf}
use Rattle.gq_document.specs.Executable.{ExecutableOf}
use Rattle.gq_rules.specs.Files.{together}

-- a definition and the number of its document, its places forgotten
abbrev pub erase_operation : OperationOf → ℕ × Def (Unit {0})
erase_operation o = (o.file, place_def no_place (operation o.kind o.name o.variables o.directives o.set o.braces o.place))

abbrev pub erase_fragment : FragmentOf → ℕ × Def (Unit {0})
erase_fragment f = (f.file, place_def no_place (fragment f.name f.on f.directives f.set f.braces f.place))

pub record SameButPlaces (x y : ExecutableOf) : Type 0 where
  pub entries : x.entries ≡ y.entries
  pub operations : map erase_operation x.operations ≡ map erase_operation y.operations
  pub fragments : map erase_fragment x.fragments ≡ map erase_fragment y.fragments

-- some fault of that document and of that code
abbrev pub HasLike : (Fault → Type 0) → Fault → Type 0
HasLike IsFault f = (g : Fault) × IsFault g × (g.file ≡ f.file) × (g.code ≡ f.code)

-- Of two that are equal but for places, the one has a fault of the rules where the other has one.
abbrev pub PlacesDoNotMatter : (ExecutableOf → Fault → Type 0) → Type 0
PlacesDoNotMatter IsFault = (x y : ExecutableOf) → SameButPlaces x y → (f : Fault) → IsFault x f → HasLike (IsFault y) f

-- the definitions of a document, their places forgotten
abbrev pub erase_read : ParsedOf → List (Def (Unit {0}))
erase_read reading = erase_document (definitions_read reading)

-- What is read of documents whose definitions are equal but for places is so.
abbrev pub DocumentsAreSameButPlaces : Type 0
DocumentsAreSameButPlaces = (es : List EntryOf) (rs qs : List ParsedOf) → map erase_read rs ≡ map erase_read qs → SameButPlaces (together es rs) (together es qs)
