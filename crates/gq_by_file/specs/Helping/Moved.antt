-- Closed sets of files whose numbers change, since a file is put in or taken out.
use Rattle.std.specs.Prelude.{◌≡◌, ℕ, Bool, false, List, Some, Contains, if◌then◌else◌, map, nat_lt, pred, slice_get}
use Rattle.gq_document.specs.Executable.{ExecutableOf}
use Rattle.gq_by_file.specs.Closed.Closed.{within, IsClosed}
use Rattle.gq_by_file.specs.Closed.Laws.{number_after_insert, TellsNothing}
use Rattle.gq_by_file.specs.declared.moved.Change.{Change}
use Rattle.gq_by_file.specs.declared.moved.Change.TheVariants.{PutIn, TakenOut}

-- the number that another file has once the one at that place is taken out
abbrev pub number_after_remove : ℕ → ℕ → ℕ
number_after_remove at n = if nat_lt at n then pred n else n

abbrev pub number_after : Change → ℕ → ℕ
number_after (PutIn at) n = number_after_insert at n
number_after (TakenOut at) n = number_after_remove at n

-- each of those files has a place, and no mark there
abbrev pub AreUnmarked : List Bool → List ℕ → Type 0
AreUnmarked marks files = (n : ℕ) → Contains files n → slice_get marks n ≡ Some false

-- A closed set of files without a mark, of which nothing is told, is one of the second project under the numbers that its files have then.
abbrev pub GoOver : (ℕ → ℕ) → List Bool → ExecutableOf → ExecutableOf → Type 0
GoOver to marks x y = (files : List ℕ) → AreUnmarked marks files → IsClosed files x → TellsNothing (within files x) → IsClosed (map to files) y × TellsNothing (within (map to files) y)
