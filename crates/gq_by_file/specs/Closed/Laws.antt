-- What is told of closed sets of files, and what of all files.
use Rattle.std.specs.Prelude.{◌≡◌, ◌↔◌, ◌⊎◌, ◌≤◌, ℕ, suc, List, [], Some, Contains, flat_map, if◌then◌else◌, length, map, nat_le, slice_get, slice_set}
use Rattle.std.specs.List.{insert}
use Rattle.gq_text.specs.declared.place.Span.{Span}
use Rattle.gq_tree.specs.Names.{spread_names}
use Rattle.gq_tree.specs.Plain.{NameOf, Def, operation, fragment, type_system}
use Rattle.gq_tree.specs.Readings.{ParsedOf, definitions_read, in_document}
use Rattle.gq_fault.specs.declared.fault.Fault.{Fault}
use Rattle.gq_types.specs.Entries.{EntryOf}
use Rattle.gq_document.specs.Definitions.{FragmentOf, fragment_in}
use Rattle.gq_document.specs.Executable.{ExecutableOf}
use Rattle.gq_fragments.specs.FragmentNameUniqueness.{IsRepeatedFragmentName}
use Rattle.gq_fragments.specs.LoneAnonymousOperation.{IsNotAlone}
use Rattle.gq_fragments.specs.OperationNameUniqueness.{IsRepeatedOperationName}
use Rattle.gq_spreads.specs.FragmentsMustBeUsed.{IsUnusedFragment}
use Rattle.gq_rules.specs.Files.{together, IsFaultAcross}
use Rattle.gq_by_file.specs.Closed.RestsOnNames.{IsFaultByNames, IsFaultBySpreads}
use Rattle.gq_by_file.specs.Closed.Closed.{within, IsClosed, StandsInFile}

abbrev pub FaultsAcrossAreByNamesOrSpreads : Type 0
FaultsAcrossAreByNamesOrSpreads = (x : ExecutableOf) (f : Fault) → IsFaultAcross x f ↔ (IsFaultByNames x f ⊎ IsFaultBySpreads x f)

-- the rules that look at names alone (sections 5.2.1.1, 5.2.2.1, 5.5.1.1 and 5.5.1.4)
pub data IsDemandedByNames (x : ExecutableOf) (f : Fault) : Type 0 where
  repeated_operation_name : IsRepeatedOperationName x f → IsDemandedByNames x f
  not_alone : IsNotAlone x f → IsDemandedByNames x f
  repeated_fragment_name : IsRepeatedFragmentName x f → IsDemandedByNames x f
  not_used : IsUnusedFragment x f → IsDemandedByNames x f

abbrev pub FaultsByNamesAreByRules : Type 0
FaultsByNamesAreByRules = (x : ExecutableOf) (f : Fault) → IsFaultByNames x f ↔ IsDemandedByNames x f

-- What is told of a closed set of files stands in it, and is told of the project.
abbrev pub FaultsOfClosedSetsAreFaults : Type 0
FaultsOfClosedSetsAreFaults = (x : ExecutableOf) (files : List ℕ) → IsClosed files x → (f : Fault) → IsFaultBySpreads (within files x) f → Contains files f.file × IsFaultBySpreads x f

-- What is told of the project is told of each closed set that has one certain file: that of what brings it about.
abbrev pub FaultsAreOfClosedSets : Type 0
FaultsAreOfClosedSets = (x : ExecutableOf) (f : Fault) → IsFaultBySpreads x f →
    (n : ℕ) × StandsInFile x n × ((files : List ℕ) → IsClosed files x → Contains files n → IsFaultBySpreads (within files x) f)

-- What is told of a closed set is told of each larger set.
abbrev pub FaultsStayInLargerSets : Type 0
FaultsStayInLargerSets = (x : ExecutableOf) (small large : List ℕ) → ((n : ℕ) → Contains small n → Contains large n) → IsClosed small x →
    (f : Fault) → IsFaultBySpreads (within small x) f → Contains small f.file × IsFaultBySpreads (within large x) f

-- Another file in the place of one outside is not seen.
abbrev pub OtherFilesAreUnseen : Type 0
OtherFilesAreUnseen = (es : List EntryOf) (rs : List ParsedOf) (at : ℕ) (r : ParsedOf) (files : List ℕ) → (Contains files at → ⊥) →
    within files (together es (slice_set rs at r)) ≡ within files (together es rs)

-- the names of the spreads in a definition, and in a document as it is read
abbrev pub spreads_in : Def Span → List (NameOf Span)
spreads_in (operation kind name variables directives set braces place) = spread_names set
spreads_in (fragment name on directives set braces place) = spread_names set
spreads_in (type_system definition) = []

abbrev pub spreads_read : ParsedOf → List (NameOf Span)
spreads_read r = flat_map spreads_in (definitions_read r)

-- no fragment of a document is spread in those files
abbrev pub AreNotSpread : List ParsedOf → List ℕ → ParsedOf → Type 0
AreNotSpread rs files r = (n : ℕ) (q : ParsedOf) → Contains files n → slice_get rs n ≡ Some q → (name : NameOf Span) → Contains (spreads_read q) name →
    (g : FragmentOf) → Contains (in_document fragment_in 0 r) g → name.text ≡ g.name.text → ⊥

-- A closed set stays so where a file outside is replaced by one of which no fragment is spread in the set.
abbrev pub ClosedSetsStay : Type 0
ClosedSetsStay = (es : List EntryOf) (rs : List ParsedOf) (at : ℕ) (r : ParsedOf) (files : List ℕ) → (Contains files at → ⊥) → AreNotSpread rs files r →
    IsClosed files (together es rs) → IsClosed files (together es (slice_set rs at r))

-- the number that a file has once another one is put in at that place
abbrev pub number_after_insert : ℕ → ℕ → ℕ
number_after_insert at n = if nat_le at n then suc n else n

-- A closed set stays so where a file is put in of which no fragment is spread in the set, under the numbers that its files have then.
abbrev pub ClosedSetsMove : Type 0
ClosedSetsMove = (es : List EntryOf) (rs : List ParsedOf) (at : ℕ) (r : ParsedOf) (files : List ℕ) → at ≤ length rs → AreNotSpread rs files r →
    IsClosed files (together es rs) → IsClosed (map (number_after_insert at) files) (together es (insert rs at r))

-- So it does where that file is taken out again.
abbrev pub ClosedSetsMoveBack : Type 0
ClosedSetsMoveBack = (es : List EntryOf) (rs : List ParsedOf) (at : ℕ) (r : ParsedOf) (files : List ℕ) → at ≤ length rs →
    IsClosed (map (number_after_insert at) files) (together es (insert rs at r)) → IsClosed files (together es rs)

-- nothing that rests on spreads is told
abbrev pub TellsNothing : ExecutableOf → Type 0
TellsNothing x = (f : Fault) → IsFaultBySpreads x f → ⊥

-- Whether something is told of a set of files does not depend on the numbers that they have.
abbrev pub NumbersOfSetsAreUnseen : Type 0
NumbersOfSetsAreUnseen = (es : List EntryOf) (rs : List ParsedOf) (at : ℕ) (r : ParsedOf) (files : List ℕ) → at ≤ length rs →
    TellsNothing (within files (together es rs)) ↔ TellsNothing (within (map (number_after_insert at) files) (together es (insert rs at r)))
