-- Which selection sets the search for faults does not start at, computed.
use Rattle.std.specs.Prelude.{◌≡◌, ◌⊎◌, ℕ, ◌<◌, Bool, true, false, List, [], ◌∷◌, Contains, length, slice_index_or}
use Rattle.gq_graph.specs.Reach.{Reach}

-- it is not passed over, and leads to the number
pub record LeadsTo (next : ℕ → List ℕ) (passed : List Bool) (n : ℕ) : Type 0 where
  pub from : ℕ
  pub within : from < length passed
  pub stays : slice_index_or passed from false ≡ false
  pub reach : Reach (from ∷ []) next n

-- what is passed over is marked, or one leads to it that is not passed over
pub record Passes (next : ℕ → List ℕ) (marks passed : List Bool) : Type 0 where
  pub count : length passed ≡ length marks
  pub why : (n : ℕ) → slice_index_or passed n false ≡ true → (slice_index_or marks n false ≡ true) ⊎ LeadsTo next passed n

-- these have the mark now, and the others what they had
pub record SetsMarks (numbers : List ℕ) (mark : Bool) (old new : List Bool) : Type 0 where
  pub count : length new ≡ length old
  pub put : (n : ℕ) → Contains numbers n → slice_index_or new n false ≡ mark
  pub kept : (n : ℕ) → (slice_index_or new n false ≡ slice_index_or old n false) ⊎ Contains numbers n
