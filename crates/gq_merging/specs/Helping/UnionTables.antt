-- Classes of selection sets, computed.
use Rattle.std.specs.Prelude.{◌≡◌, ℕ, ◌<◌, List, Contains, length}
use Rattle.std.specs.declared.vec.Vec.{Vec}
use Rattle.std.specs.declared.alloc.Global.{Global}
use Rattle.gq_graph.specs.Reach.{row}
use Rattle.gq_graph.specs.Transposed.{Transposed}

-- each set has the number of its class, and each class the sets that have its number
pub record AreUnions (spreads numbers classes : List (Vec ℕ Global)) : Type 0 where
  pub count : length numbers ≡ length spreads
  pub are : Transposed numbers classes

-- all of the group are in one class
pub record IsInOne (numbers : List (Vec ℕ Global)) (group : List ℕ) : Type 0 where
  pub class : ℕ
  pub within : class < length numbers
  pub each : (n : ℕ) → Contains group n → Contains (row numbers n) class
