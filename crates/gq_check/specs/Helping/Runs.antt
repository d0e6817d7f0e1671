-- Faults of one document, one after the other. Only contracts of private functions speak of it.
use Rattle.std.specs.Prelude.{◌≡◌, ℕ, List, [], ◌∷◌, All}
use Rattle.gq_fault.specs.declared.found.Found.{Found}

-- the key of the first fault
abbrev pub first_key : List Found → List ℕ
first_key [] = []
first_key (found ∷ rest) = found.key

-- all faults have that key
abbrev pub AreAllOf : List ℕ → List Found → Type 0
AreAllOf key found = All (λ f. f.key ≡ key) found
