-- The rule of the channel of jobs.
use Rattle.std.specs.Prelude.{◌≡◌, ℕ, ◌+◌, List, [], ◌∷◌}
use Rattle.gq_workers.specs.declared.jobs.Hand.{Hand}
use Rattle.gq_workers.specs.declared.order.OrderOf.{OrderOf}

abbrev pub hand : List OrderOf → List OrderOf → Hand
hand put taken = record { put = put; taken = taken }

-- the weights of the orders, added up
abbrev pub weigh : (OrderOf → ℕ) → List OrderOf → ℕ
weigh h [] = 0
weigh h (x ∷ xs) = h x + weigh h xs

-- f of each view, added up
abbrev pub total : (Hand → ℕ) → List Hand → ℕ
total f [] = 0
total f (v ∷ vs) = f v + total f vs

-- What was put is what was taken and what the channel holds, however orders are weighed: so each order stands there as often as it was put.
abbrev pub Balanced : List OrderOf → List Hand → Type 0
Balanced orders views = (h : OrderOf → ℕ) → total (λ v. weigh h v.put) views ≡ total (λ v. weigh h v.taken) views + weigh h orders
