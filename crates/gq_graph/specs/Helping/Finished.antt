-- The numbers of a graph in the order in which a walk of it has finished with them.
use Rattle.std.specs.Prelude.{ℕ, List, [], ◌∷◌, ◌++◌, Bool, Contains, All, ◌<◌, ◌≤◌, ◌≡◌, ◌⊎◌, ◌+◌, ◌-◌, length, slice_index}
use Rattle.std.specs.declared.vec.Vec.{Vec}
use Rattle.std.specs.declared.alloc.Global.{Global}
use Rattle.gq_graph.specs.Reach.{Reach, row}
use Rattle.gq_graph.specs.Helping.Found.{Marked}

-- what these numbers lead to is among them, or there is a way from it to the number
abbrev pub Back : (next : ℕ → List ℕ) (numbers : List ℕ) (number : ℕ) → Type 0
Back next numbers number = (m n : ℕ) → Contains numbers m → Contains (next m) n → Contains numbers n ⊎ Reach (n ∷ []) next number

-- each number once, and each time one was finished, all that the finished ones lead to was finished or led back to it
pub data Finished (next : ℕ → List ℕ) : List ℕ → Type 0 where
  nothing : Finished next []
  finish : {numbers : List ℕ} {number : ℕ} → Finished next numbers → (Contains numbers number → ⊥) →
      Back next (numbers ++ number ∷ []) number → Finished next (numbers ++ number ∷ [])

-- there is a way from each number to each that stands behind it
abbrev pub LeadsOn : (ℕ → List ℕ) → List ℕ → Type 0
LeadsOn next ns = (i j : ℕ) → i < j → j < length ns → Reach (slice_index ns i ∷ []) next (slice_index ns j)

-- A walk of the table: of each row so many entries are passed. What was passed is finished or stands on the stack,
-- and of a finished number all is passed.
pub record Walk (rows : List (Vec ℕ Global)) (passed : List ℕ) (marks : List Bool) (finished stack : List ℕ) : Type 0 where
  pub marked : Marked marks finished
  pub marks_count : length marks ≡ length rows
  pub passed_count : length passed ≡ length rows
  pub range : All (λ n. n < length rows) stack
  pub way : LeadsOn (row rows) stack
  pub seen : (n k : ℕ) → k < slice_index passed n → k < length (row rows n) →
      Contains (finished ++ stack) (slice_index (row rows n) k)
  pub whole : All (λ n. length (row rows n) ≤ slice_index passed n) finished
  pub order : Finished (row rows) finished

-- the entries that are not passed
abbrev pub entries_left : List (Vec ℕ Global) → List ℕ → ℕ
entries_left [] ps = 0
entries_left (v ∷ vs) [] = 0
entries_left (v ∷ vs) (p ∷ ps) = (length v.items - p) + entries_left vs ps
