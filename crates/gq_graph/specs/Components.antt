-- Marks at what stands on a cycle, by the numbers that lead to each other.
use Rattle.std.specs.Prelude.{ℕ, List, [], ◌∷◌, ◌++◌, Bool, true, false, Contains, All, ◌≡◌, ◌⊎◌, slice_index_or}
use Rattle.gq_graph.specs.Reach.{Reach}

-- what these numbers lead to is on the list
abbrev pub Led : (ℕ → List ℕ) → (done found : List ℕ) → Type 0
Led next done found = All (λ m. All (λ n. Contains found n) (next m)) done

-- the list afterwards: longer by some numbers that the starts lead to, and holding what each of its numbers leads to
pub record Closed (next : ℕ → List ℕ) (starts old new : List ℕ) : Type 0 where
  pub added : List ℕ
  pub is : new ≡ old ++ added
  pub taken : All (λ n. Reach starts next n) added
  pub led : Led next new new

-- the numbers are marked, beside what was marked
pub record Also (numbers : List ℕ) (old new : List Bool) : Type 0 where
  pub kept : (n : ℕ) → slice_index_or old n false ≡ true → slice_index_or new n false ≡ true
  pub put : All (λ n. slice_index_or new n false ≡ true) numbers
  pub only : (n : ℕ) → slice_index_or new n false ≡ true → (slice_index_or old n false ≡ true) ⊎ Contains numbers n

-- one of these numbers is marked
abbrev pub SomeMarked : List ℕ → List Bool → Type 0
SomeMarked numbers marks = (n : ℕ) × Contains numbers n × (slice_index_or marks n false ≡ true)

-- The number and all that leads to it were found, and those that are new are marked if one of those ahead was found.
pub record Collected (ahead : List ℕ) (prev : ℕ → List ℕ) (number : ℕ) (found found' : List ℕ) (marks marks' : List Bool) : Type 0 where
  pub added : List ℕ
  pub is : found' ≡ found ++ added
  pub here : Contains found' number
  pub taken : All (λ n. Reach (number ∷ []) prev n) added
  pub led : Led prev found' found'
  pub kept : (n : ℕ) → slice_index_or marks n false ≡ true → slice_index_or marks' n false ≡ true
  pub put : (b : ℕ) → Contains ahead b → Contains found' b → All (λ n. slice_index_or marks' n false ≡ true) added
  pub only : (n : ℕ) → slice_index_or marks' n false ≡ true → (slice_index_or marks n false ≡ true) ⊎
      (Contains added n × (b : ℕ) × Contains ahead b × Contains found' b)
