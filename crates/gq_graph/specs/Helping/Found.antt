-- A list of numbers that were found, and marks that say which are in it.
use Rattle.std.specs.Prelude.{ℕ, ◌+◌, ◌≤◌, ◌<◌, ◌≡◌, ◌⊎◌, List, [], ◌∷◌, ◌++◌, Bool, true, false, Contains, All, length, slice_index_or}
use Rattle.gq_graph.specs.Reach.{NoneTwice}

-- how many places are marked
abbrev pub count_marked : List Bool → ℕ
count_marked [] = 0
count_marked (true ∷ bs) = 1 + count_marked bs
count_marked (false ∷ bs) = count_marked bs

-- exactly the numbers of the list are marked, and each is in it once
pub record Marked (marks : List Bool) (found : List ℕ) : Type 0 where
  pub listed : (n : ℕ) → slice_index_or marks n false ≡ true → Contains found n
  pub marked : All (λ n. slice_index_or marks n false ≡ true) found
  pub within : All (λ n. n < length marks) found
  pub once : NoneTwice found
  pub few : length found ≤ count_marked marks

-- the list afterwards: longer by some of these numbers, and holding each of them
pub record Grown (numbers old new : List ℕ) : Type 0 where
  pub added : List ℕ
  pub is : new ≡ old ++ added
  pub taken : All (λ n. Contains numbers n) added
  pub holds : All (λ n. Contains new n) numbers

-- the number was new and stands at the end now, or was there already
abbrev pub Added : (number : ℕ) (old new : List ℕ) → Type 0
Added number old new = ((Contains old number → ⊥) × (new ≡ old ++ number ∷ [])) ⊎ (Contains old number × (new ≡ old))
