-- Components, given to numbers that lead to each other.
use Rattle.std.specs.Prelude.{ℕ, List, ◌∷◌, [], ◌++◌, Contains, All, ◌≡◌, ◌⊎◌, slice_index}
use Rattle.gq_graph.specs.Reach.{Reach}
use Rattle.gq_graph.specs.Components.{Led}

-- the component was given to these numbers, and nothing else changed
pub record Assigned (numbers : List ℕ) (component : ℕ) (old new : List ℕ) : Type 0 where
  pub put : All (λ n. slice_index new n ≡ component) numbers
  pub only : (n : ℕ) → (slice_index new n ≡ slice_index old n) ⊎ Contains numbers n

-- The number and all that leads to it were found, and those that are new are of its component.
pub record Gathered (prev : ℕ → List ℕ) (number : ℕ) (found found' components components' : List ℕ) : Type 0 where
  pub added : List ℕ
  pub is : found' ≡ found ++ added
  pub here : Contains found' number
  pub taken : All (λ n. Reach (number ∷ []) prev n) added
  pub led : Led prev found' found'
  pub put : All (λ n. slice_index components' n ≡ number) added
  pub only : (n : ℕ) → (slice_index components' n ≡ slice_index components n) ⊎ Contains added n
