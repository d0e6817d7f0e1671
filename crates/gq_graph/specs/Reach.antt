-- Ways in a graph. A vertex is a number, and `next` gives the list of numbers that it leads to.
-- A way is a sequence of one or more numbers, each of them on the list of the number before it.
-- Each such pair of neighbours is a step.
use Rattle.std.specs.Prelude.{ℕ, zero, suc, List, [], ◌∷◌, Contains, All, ◌<◌, ◌≢◌, length, slice_index}
use Rattle.std.specs.declared.vec.Vec.{Vec}
use Rattle.std.specs.declared.alloc.Global.{Global}

-- There is a way to the number that begins at one of the starts, of any number of steps, none included.
pub data Reach (starts : List ℕ) (next : ℕ → List ℕ) : ℕ → Type 0 where
  start : {n : ℕ} → Contains starts n → Reach starts next n
  step : {m n : ℕ} → Reach starts next m → Contains (next m) n → Reach starts next n

-- A way of one step or more leads from the number back to it.
abbrev pub LeadsBack : (ℕ → List ℕ) → ℕ → Type 0
LeadsBack next n = Reach (next n) next n

-- Ways lead from each of the two numbers to the other.
abbrev pub LeadToEachOther : (ℕ → List ℕ) → (m n : ℕ) → Type 0
LeadToEachOther next m n = Reach (m ∷ []) next n × Reach (n ∷ []) next m

-- what a number leads to by a table: its row, and nothing past the table's end
abbrev pub row : List (Vec ℕ Global) → ℕ → List ℕ
row [] m = []
row (v ∷ vs) zero = v.items
row (v ∷ vs) (suc m) = row vs m

-- each number in the table has a row
abbrev pub InRange : List (Vec ℕ Global) → Type 0
InRange rows = All (λ v. All (λ n. n < length rows) v.items) rows

-- no number stands at two places of the list
abbrev pub NoneTwice : List ℕ → Type 0
NoneTwice ns = (i j : ℕ) → i < j → j < length ns → slice_index ns i ≢ slice_index ns j
