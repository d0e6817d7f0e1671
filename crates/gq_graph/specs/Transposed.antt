-- A transposed table.
use Rattle.std.specs.Prelude.{ℕ, List, Contains, All, ◌≡◌, ◌⊎◌, length}
use Rattle.std.specs.declared.vec.Vec.{Vec}
use Rattle.std.specs.declared.alloc.Global.{Global}
use Rattle.gq_graph.specs.Reach.{row}

-- each number's row has exactly the numbers in whose rows it stands
pub record Transposed (rows back : List (Vec ℕ Global)) : Type 0 where
  pub count : length back ≡ length rows
  pub sound : (m n : ℕ) → Contains (row back n) m → Contains (row rows m) n
  pub complete : (m n : ℕ) → Contains (row rows m) n → Contains (row back n) m

-- the number was put into the rows at these places, and nothing else changed
pub record Put (places : List ℕ) (number : ℕ) (old new : List (Vec ℕ Global)) : Type 0 where
  pub kept : (k n : ℕ) → Contains (row old k) n → Contains (row new k) n
  pub put : All (λ k. Contains (row new k) number) places
  pub only : (k n : ℕ) → Contains (row new k) n → Contains (row old k) n ⊎ (Contains places k × (n ≡ number))
