-- Type systems that are equal but for their places.
use Rattle.std.specs.Prelude.{◌≡◌, ℕ, List, map}
use Rattle.std.specs.Option.{option_map}
use Rattle.gq_fault.specs.declared.fault.Fault.{Fault}
use Rattle.gq_tree.specs.Plain.{TypeSystemOf, place_field, place_input, place_type_system, no_place}
use Rattle.gq_tree.specs.declared.tree.OperationKind.{OperationKind}
use Rattle.gq_tree.specs.Readings.{ParsedOf}
use Rattle.gq_types.specs.Entries.{Text, EntryOf}
use Rattle.gq_types.specs.ErasedEntries.{erase_entry}
use Rattle.gq_types.specs.Joined.{kind_named}
use Rattle.gq_types.specs.Names.{field_named, input_named, has_value, has_member, declares, directive_named}
use Rattle.gq_types.specs.Roots.{root_of}
use Rattle.gq_type_system.specs.SchemaFaults.{IsSchemaFault}
use Rattle.gq_document.specs.Definitions.{OperationOf, FragmentOf}
use Rattle.gq_document.specs.Executable.{ExecutableOf}
use Rattle.gq_rules.specs.Project.{executable_of}
use Rattle.gq_laws.specs.Placing.Places.{erase_operation, erase_fragment, HasLike, erase_read}

-- What the rules ask of a type system, its places forgotten.
pub record LooksAlike (es us : List EntryOf) : Type 0 where
  pub kind : (text : Text) → kind_named es text ≡ kind_named us text
  pub field : (type_name text : Text) → option_map (place_field no_place) (field_named es type_name text) ≡ option_map (place_field no_place) (field_named us type_name text)
  pub input : (type_name text : Text) → option_map (place_input no_place) (input_named es type_name text) ≡ option_map (place_input no_place) (input_named us type_name text)
  pub value : (type_name text : Text) → has_value es type_name text ≡ has_value us type_name text
  pub member : (type_name text : Text) → has_member es type_name text ≡ has_member us type_name text
  pub declared : (type_name text : Text) → declares es type_name text ≡ declares us type_name text
  pub directive : (text : Text) → option_map (place_type_system no_place) (directive_named es text) ≡ option_map (place_type_system no_place) (directive_named us text)
  pub root : (kind : OperationKind) → root_of es kind ≡ root_of us kind

-- The places in the type system do not matter: the very same faults.
abbrev pub PlacesOfTypesDoNotMatter : (ExecutableOf → Fault → Type 0) → Type 0
PlacesOfTypesDoNotMatter IsFault = (es us : List EntryOf) → LooksAlike es us → (os : List OperationOf) (gs : List FragmentOf) (f : Fault) →
    IsFault (record { entries = es; operations = os; fragments = gs }) f → IsFault (record { entries = us; operations = os; fragments = gs }) f

-- a definition of the type system without its places, and the number of its document
abbrev pub erase_filed : EntryOf → ℕ × TypeSystemOf (Unit {0})
erase_filed e = (e.file, erase_entry e)

-- In type systems that are equal but for places each look-up finds the same but for places.
abbrev pub TypesLookAlike : Type 0
TypesLookAlike = (es us : List EntryOf) → map erase_entry es ≡ map erase_entry us → LooksAlike es us

-- Of two type systems that are equal but for their places, the one breaks a rule of section 3 in a document where the other does.
abbrev pub PlacesOfTypesDoNotMatterToTypes : Type 0
PlacesOfTypesDoNotMatterToTypes = (es us : List EntryOf) → map erase_filed es ≡ map erase_filed us → (f : Fault) → IsSchemaFault es f → HasLike (IsSchemaFault us) f

-- some fault of that code
abbrev pub HasOfCode : (Fault → Type 0) → Fault → Type 0
HasOfCode IsFault f = (g : Fault) × IsFault g × (g.code ≡ f.code)

-- Of two type systems that are equal but for their places and for the documents that they stand in, the one breaks a rule of section 3 where the other does.
abbrev pub DocumentsOfTypesDoNotMatterToTypes : Type 0
DocumentsOfTypesDoNotMatterToTypes = (es us : List EntryOf) → map erase_entry es ≡ map erase_entry us → (f : Fault) → IsSchemaFault es f → HasOfCode (IsSchemaFault us) f

-- equal but for the places in the executable definitions and in the type system
pub record SameButAllPlaces (x y : ExecutableOf) : Type 0 where
  pub entries : map erase_entry x.entries ≡ map erase_entry y.entries
  pub operations : map erase_operation x.operations ≡ map erase_operation y.operations
  pub fragments : map erase_fragment x.fragments ≡ map erase_fragment y.fragments

-- Places anywhere do not matter.
abbrev pub NoPlacesMatter : (ExecutableOf → Fault → Type 0) → Type 0
NoPlacesMatter IsFault = (x y : ExecutableOf) → SameButAllPlaces x y → (f : Fault) → IsFault x f → HasLike (IsFault y) f

-- What is read of projects whose definitions are equal but for places is so.
abbrev pub ProjectsAreSameButPlaces : Type 0
ProjectsAreSameButPlaces = (rs qs : List ParsedOf) → map erase_read rs ≡ map erase_read qs → SameButAllPlaces (executable_of rs) (executable_of qs)

-- no fault of those rules is told
abbrev pub IsFaultless : (ExecutableOf → Fault → Type 0) → ExecutableOf → Type 0
IsFaultless IsFault x = (f : Fault) → IsFault x f → ⊥

-- Whether a project is faultless is seen in its trees without places.
abbrev pub TreesSayWhatIsFaultless : (ExecutableOf → Fault → Type 0) → Type 0
TreesSayWhatIsFaultless IsFault = (rs qs : List ParsedOf) → map erase_read rs ≡ map erase_read qs → IsFaultless IsFault (executable_of rs) → IsFaultless IsFault (executable_of qs)
