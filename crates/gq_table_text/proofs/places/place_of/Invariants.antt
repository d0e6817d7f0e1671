use Rattle.std.proofs.Common.{◌≡◌, ◌+◌, ℕ, Some, drop}
use Rattle.gq_table_text.specs.Helping.Places.{place_of}
use Rattle.gq_table_text.proofs.places.place_of.Given as goal

-- a place among those that are left is one among all
abbrev pub invariant-loop-at : goal.invariant-loop-at
invariant-loop-at l = (n : ℕ) → place_of l.name (drop l.at l.entries) ≡ Some n → place_of l.name l.entries ≡ Some (n + l.at)
