-- The faults of each file that rest on it and the type system alone, as far as they are known.
use Rattle.std.specs.Prelude.{◌≡◌, ◌↔◌, ℕ, List, [], ◌∷◌, Option, Some, None, Contains, map, slice_get}
use Rattle.gq_tree.specs.Readings.{ParsedOf, SharedParsed, readings_view}
use Rattle.gq_types.specs.Entries.{EntryOf}
use Rattle.gq_types.specs.Look.{types_view}
use Rattle.gq_types.specs.declared.entry.Entry.{Entry}
use Rattle.gq_fault.specs.declared.fault.Fault.{Fault}
use Rattle.gq_rules.specs.Files.{alone, in_file, IsLocalFault}

-- they are the file's, which counts as the first
abbrev pub AreOwnOf : List EntryOf → ParsedOf → List Fault → Type 0
AreOwnOf es r faults = (f : Fault) → Contains faults f ↔ IsLocalFault (alone es 0 r) f

-- they are, if they are known
abbrev pub IsOwn : List EntryOf → ParsedOf → Option (List Fault) → Type 0
IsOwn es r None = Unit {0}
IsOwn es r (Some faults) = AreOwnOf es r faults

-- they are known
abbrev pub IsFoundOwn : List EntryOf → ParsedOf → Option (List Fault) → Type 0
IsFoundOwn es r None = ⊥
IsFoundOwn es r (Some faults) = AreOwnOf es r faults

-- so of the files in order; of those behind the last one nothing is known
pub data AreOwn (es : List EntryOf) : List ParsedOf → List (Option (List Fault)) → Type 0 where
  none : {rs : List ParsedOf} → AreOwn es rs []
  more : {r : ParsedOf} {rs : List ParsedOf} {one : Option (List Fault)} {own : List (Option (List Fault))} → IsOwn es r one → AreOwn es rs own → AreOwn es (r ∷ rs) (one ∷ own)

-- they are known of the file of that number
abbrev pub IsFoundAt : List EntryOf → ParsedOf → ℕ → List (Option (List Fault)) → Type 0
IsFoundAt es r file own = (one : Option (List Fault)) → slice_get own file ≡ Some one → IsFoundOwn es r one

-- what is known of a file, which has that number
abbrev pub own_in : ℕ → Option (List Fault) → List Fault
own_in file None = []
own_in file (Some faults) = map (in_file file) faults

-- so of files that are read so, over the types that are looked up
abbrev pub AreOwnOver : List Entry → List SharedParsed → List (Option (List Fault)) → Type 0
AreOwnOver types readings own = AreOwn (types_view types) (readings_view readings) own
