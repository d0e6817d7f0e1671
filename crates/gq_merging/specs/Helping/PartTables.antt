-- The fragments spread in each set in two parts, computed.
use Rattle.std.specs.Prelude.{◌≡◌, ◌↔◌, ◌⊎◌, ℕ, List, Contains, length}
use Rattle.std.specs.declared.vec.Vec.{Vec}
use Rattle.std.specs.declared.alloc.Global.{Global}
use Rattle.gq_graph.specs.Reach.{row}
use Rattle.gq_merging.specs.Helping.SetTables.{MemberOf, RowOf}
use Rattle.gq_merging.specs.Helping.GroupTables.{IsOfGroup}

-- each part has a list for each set, and what is spread in a set is in one of its two lists
pub record AreParts (spreads near far : List (Vec ℕ Global)) : Type 0 where
  pub near_count : length near ≡ length spreads
  pub far_count : length far ≡ length spreads
  pub each : (n k : ℕ) → Contains (row spreads n) k ↔ (Contains (row near n) k ⊎ Contains (row far n) k)

-- the fields of a group are these, and what these fragments reach
pub record AreSplit (rows : List RowOf) (group : List ℕ) (own : List MemberOf) (fragments : List ℕ) : Type 0 where
  pub each : (m : MemberOf) → IsOfGroup rows group m ↔ (Contains own m ⊎ IsOfGroup rows fragments m)
