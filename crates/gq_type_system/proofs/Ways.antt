-- Ways of one step or more, carried from one naming of what they lead over to another.
use Rattle.std.proofs.Common.{◌≡◌, ℕ, List, Contains, subst, ◌↔◌}
use Rattle.gq_graph.specs.Reach.{Reach, LeadsBack, start, step as reach_step}
use Rattle.gq_type_system.specs.EndlessInputs.{Way, step, further}

module _ {V : Type 0} (Graph : V → V → Type 0) where
  one_more : {x y z : V} → Way Graph x y → Graph y z → Way Graph x z
  one_more (step first) last = further first (step last)
  one_more (further first rest) last = further first (one_more rest last)

  pub joined : {x y z : V} → Way Graph x y → Way Graph y z → Way Graph x z
  joined (step first) way = further first way
  joined (further first rest) way = further first (joined rest way)

  -- the step that a way begins with
  pub first_step : {x y : V} → Way Graph x y → (z : V) × Graph x z
  first_step {x} {y} (step first) = (y, first)
  first_step (further {y = z} first rest) = (z, first)

module _ (next : ℕ → List ℕ) where
  abbrev pub Next : ℕ → ℕ → Type 0
  Next m n = Contains (next m) n

  way_from_reach : (m n : ℕ) → Reach (next m) next n → Way Next m n
  way_from_reach m n (start found) = step found
  way_from_reach m n (reach_step {m = k} way found) = one_more Next (way_from_reach m k way) found

  reach_further : (k m n : ℕ) → Next k m → Reach (next m) next n → Reach (next k) next n
  reach_further k m n first (start found) = reach_step (start first) found
  reach_further k m n first (reach_step {m = j} way found) = reach_step (reach_further k m j first way) found

  reach_from_way : (m n : ℕ) → Way Next m n → Reach (next m) next n
  reach_from_way m n (step found) = start found
  reach_from_way m n (further {y = k} found rest) = reach_further m k n found (reach_from_way k n rest)

  pub ways_lead_back : (n : ℕ) → LeadsBack next n ↔ Way Next n n
  ways_lead_back n = (way_from_reach n n, reach_from_way n n)

-- v is named w where `Is v w`
module _ {V W : Type 0} (LeadsV : V → V → Type 0) (LeadsW : W → W → Type 0) (Is : V → W → Type 0) where
  -- where each has one name, and a step leads to a name by a step of names
  pub carried : ((v v' : V) (w : W) → Is v w → LeadsV v v' → (w' : W) × Is v' w' × LeadsW w w') → ((v : V) (w w' : W) → Is v w → Is v w' → w ≡ w')
      → (v v' : V) (w w' : W) → Way LeadsV v v' → Is v w → Is v' w' → Way LeadsW w w'
  carried lead same v v' w w' (step first) is is' = let named = lead v v' w is first in step (subst (LeadsW w) (same v' named.0 w' named.1 is') named.2)
  carried lead same v v' w w' (further {y = u} first rest) is is' =
      let named = lead v u w is first in further named.2 (carried lead same u v' named.0 w' rest named.1 is')

  -- where a step of names is one of all that have these names, and all names from which steps lead are had
  pub carried_back : ((v v' : V) (w w' : W) → Is v w → Is v' w' → LeadsW w w' → LeadsV v v') → ((w w' : W) → LeadsW w w' → (v : V) × Is v w)
      → (v v' : V) (w w' : W) → Way LeadsW w w' → Is v w → Is v' w' → Way LeadsV v v'
  carried_back lead had v v' w w' (step first) is is' = step (lead v v' w w' is is' first)
  carried_back lead had v v' w w' (further {y = x} first rest) is is' =
      let next = first_step LeadsW rest in
      let named = had x next.0 next.1 in
      further (lead v named.0 w x is named.1 first) (carried_back lead had named.0 v' x w' rest named.1 is')
