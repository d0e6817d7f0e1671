-- What is told of a file alone, and what of all files.
use Rattle.std.specs.Prelude.{◌≡◌, ◌↔◌, ◌⊎◌, ℕ, List, [], ◌∷◌, Some, map, flat_map, slice_get}
use Rattle.gq_text.specs.declared.place.Span.{Span}
use Rattle.gq_tree.specs.Plain.{TypeSystemOf, Def, operation, fragment, type_system}
use Rattle.gq_tree.specs.Readings.{ParsedOf, definitions_read}
use Rattle.gq_fault.specs.declared.fault.Fault.{Fault}
use Rattle.gq_types.specs.Entries.{EntryOf}
use Rattle.gq_document.specs.Definitions.{OperationOf, FragmentOf}
use Rattle.gq_rules.specs.RuleFaults.{IsRuleFault}
use Rattle.gq_rules.specs.Project.{type_system_of, executable_of}
use Rattle.gq_rules.specs.Unread.{IsUnread}
use Rattle.gq_rules.specs.Faults.{IsToldFirst, IsFaultOf, IsMixed}
use Rattle.gq_rules.specs.Files.{alone, together, in_file, IsLocalFault, IsFaultAcross, IsOfItsFile}

-- The local faults of files together are those of each file alone.
abbrev pub LocalFaultsAreOfTheirFile : Type 0
LocalFaultsAreOfTheirFile = (es : List EntryOf) (rs : List ParsedOf) (f : Fault) → IsLocalFault (together es rs) f ↔ IsOfItsFile es rs f

-- The number of a file is seen in its local faults as their file, and nowhere else.
abbrev pub NumbersOfFilesAreUnseen : Type 0
NumbersOfFilesAreUnseen = (es : List EntryOf) (n : ℕ) (r : ParsedOf) (f : Fault) →
    IsLocalFault (alone es n r) f ↔ ((f.file ≡ n) × IsLocalFault (alone es 0 r) (in_file 0 f))

-- one type system, whatever files its definitions stand in
abbrev pub AreOneTypeSystem : (es us : List EntryOf) → Type 0
AreOneTypeSystem es us = map (λ e. e.definition) es ≡ map (λ e. e.definition) us

-- no rule of operations and fragments tells the one type system from the other
abbrev pub AreAlikeToRules : (es us : List EntryOf) → Type 0
AreAlikeToRules es us = (os : List OperationOf) (gs : List FragmentOf) (f : Fault) →
    IsRuleFault (record { entries = es; operations = os; fragments = gs }) f ↔ IsRuleFault (record { entries = us; operations = os; fragments = gs }) f

-- The files in which the type system is defined are unseen by every rule.
abbrev pub NumbersOfEntriesAreUnseen : Type 0
NumbersOfEntriesAreUnseen = (es us : List EntryOf) → AreOneTypeSystem es us → AreAlikeToRules es us

-- A file stands in both, with the same definitions.
pub record IsKept (before after : List ParsedOf) (old new : ℕ) : Type 0 where
  pub was : ParsedOf
  pub stood : slice_get before old ≡ Some was
  pub is : ParsedOf
  pub stands : slice_get after new ≡ Some is
  pub one : definitions_read was ≡ definitions_read is

-- A file that is kept keeps its local faults where the type system is kept.
abbrev pub LocalFaultsStay : Type 0
LocalFaultsStay = (es us : List EntryOf) → AreOneTypeSystem es us → (before after : List ParsedOf) (old new : ℕ) → IsKept before after old new →
    (f : Fault) → f.file ≡ old → IsLocalFault (together es before) f ↔ IsLocalFault (together us after) (in_file new f)

-- the definitions of the type system in a file
abbrev pub type_system_in : Def Span → List (TypeSystemOf Span)
type_system_in (operation kind name variables directives set braces place) = []
type_system_in (fragment name on directives set braces place) = []
type_system_in (type_system definition) = definition ∷ []

abbrev pub type_system_read : ParsedOf → List (TypeSystemOf Span)
type_system_read r = flat_map type_system_in (definitions_read r)

-- The same of projects, as they are read.
abbrev pub LocalFaultsOfProjectsStay : Type 0
LocalFaultsOfProjectsStay = (before after : List ParsedOf) → flat_map type_system_read before ≡ flat_map type_system_read after → (old new : ℕ) → IsKept before after old new →
    (f : Fault) → f.file ≡ old → IsLocalFault (executable_of before) f ↔ IsLocalFault (executable_of after) (in_file new f)

-- What is told of a file without a tree and of a mixed one is told of it alone.
abbrev pub IsUnreadOrMixed : List ParsedOf → Fault → Type 0
IsUnreadOrMixed rs f = IsUnread rs f ⊎ IsMixed rs f

abbrev pub UnreadAndMixedAreOfTheirFile : Type 0
UnreadAndMixedAreOfTheirFile = (rs : List ParsedOf) (f : Fault) →
    IsUnreadOrMixed rs f ↔ ((r : ParsedOf) × (slice_get rs f.file ≡ Some r) × IsUnreadOrMixed (r ∷ []) (in_file 0 f))

-- What is told of a project by its files: what is told first; and where nothing is, what each file tells alone, and what
-- rests on more than one file.
pub data IsToldByFiles (rs : List ParsedOf) (f : Fault) : Type 0 where
  first : IsToldFirst rs f → IsToldByFiles rs f
  of_file : ((other : Fault) → IsToldFirst rs other → ⊥) → IsOfItsFile (type_system_of rs) rs f → IsToldByFiles rs f
  across : ((other : Fault) → IsToldFirst rs other → ⊥) → IsFaultAcross (executable_of rs) f → IsToldByFiles rs f

abbrev pub FaultsAreToldByFiles : Type 0
FaultsAreToldByFiles = (rs : List ParsedOf) (f : Fault) → IsFaultOf rs f ↔ IsToldByFiles rs f
