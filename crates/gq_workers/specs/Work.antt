-- How the orders that a worker took stand to those that it handed on.
use Rattle.std.specs.Prelude.{◌≡◌, List, [], ◌∷◌, ◌++◌}
use Rattle.gq_workers.specs.declared.order.OrderOf.{OrderOf}

-- what was taken since is what was handed on since, in order
abbrev pub AllHanded : List OrderOf → List OrderOf → List OrderOf → List OrderOf → Type 0
AllHanded taken taken' handed handed' = (done : List OrderOf) × (handed' ≡ handed ++ done) × (taken' ≡ taken ++ done)

-- the same but for the last that was taken
abbrev pub ButOne : List OrderOf → List OrderOf → List OrderOf → List OrderOf → Type 0
ButOne taken taken' handed handed' = (done : List OrderOf) × (last : OrderOf) × (handed' ≡ handed ++ done) × (taken' ≡ (taken ++ done) ++ last ∷ [])
