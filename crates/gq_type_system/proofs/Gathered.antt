-- What is told alone, and what a test that does not pass comes to.
use Rattle.std.proofs.Common.{◌≡◌, Bool, true, false, [], ◌∷◌, refl, sym, Contains}
use Rattle.gq_types.proofs.Gathered.{only}

pub in_only : {X : Type 0} (y x : X) → Contains (y ∷ []) x → y ≡ x
in_only y x found = sym (only y x found)

pub not_true : (t : Bool) → (t ≡ true → ⊥) → t ≡ false
not_true true h = absurd (h refl)
not_true false h = refl
