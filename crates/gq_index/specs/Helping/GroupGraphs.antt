-- The graph in which a variable's group is reached, computed.
use Rattle.std.specs.Prelude.{◌≡◌, ℕ, ◌+◌, ◌<◌, Bool, true, false, List, [], ◌∷◌, ◌++◌, Contains, map, if◌then◌else◌, ◌-◌}
use Rattle.std.specs.Bool.{nat_lt}
use Rattle.gq_graph.specs.Reach.{Reach}

-- What is known of the definitions of a project, by their numbers: which fragments each spreads, which definitions spread each,
-- which are operations, and which use the variable.
pub record Sharing : Type 0 where
  pub count : ℕ
  pub spread_in : ℕ → List ℕ
  pub spreading : ℕ → List ℕ
  pub is_operation : ℕ → Bool
  pub uses : ℕ → Bool

-- A number below the count stands for a definition of the group. The same number of counts further on stands for a fragment that an
-- operation of the group reaches, and once more for a definition that leads to a fragment of the group that uses the variable.
abbrev pub leads_of_member : Sharing → ℕ → List ℕ
leads_of_member s k =
    if s.is_operation k then map (λ j. s.count + j) (s.spread_in k)
    else if s.uses k then map (λ j. (s.count + s.count) + j) (s.spreading k)
    else []

abbrev pub leads_of_reached : Sharing → ℕ → List ℕ
leads_of_reached s k = map (λ j. s.count + j) (s.spread_in k) ++ (if s.uses k then k ∷ [] else [])

abbrev pub leads_of_leading : Sharing → ℕ → List ℕ
leads_of_leading s k = if s.is_operation k then k ∷ [] else map (λ j. (s.count + s.count) + j) (s.spreading k)

abbrev pub leads_of : Sharing → ℕ → List ℕ
leads_of s n =
    if nat_lt n s.count then leads_of_member s n
    else if nat_lt n (s.count + s.count) then leads_of_reached s (n - s.count)
    else leads_of_leading s (n - (s.count + s.count))

-- the group, by numbers alone
pub data NumberGroup (s : Sharing) (start : ℕ) : ℕ → Type 0 where
  itself : NumberGroup s start start
  with_operation : {o f : ℕ} → NumberGroup s start o → s.is_operation o ≡ true → Reach (s.spread_in o) s.spread_in f → s.uses f ≡ true → NumberGroup s start f
  with_fragment : {o f : ℕ} → NumberGroup s start f → s.is_operation o ≡ true → Reach (s.spread_in o) s.spread_in f → s.uses f ≡ true → NumberGroup s start o

-- the numbers of a project's definitions
pub record IsSharing (s : Sharing) : Type 0 where
  pub forth : (m n : ℕ) → Contains (s.spreading n) m → Contains (s.spread_in m) n
  pub back : (m n : ℕ) → Contains (s.spread_in m) n → Contains (s.spreading n) m
  pub spreader_below : (m n : ℕ) → Contains (s.spread_in m) n → m < s.count
  pub spread_below : (m n : ℕ) → Contains (s.spread_in m) n → n < s.count
  pub spread_is_fragment : (m n : ℕ) → Contains (s.spread_in m) n → s.is_operation n ≡ false
