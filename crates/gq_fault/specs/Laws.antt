-- What the numbers of codes mean.
use Rattle.std.specs.Prelude.{◌≡◌}
use Rattle.gq_fault.specs.declared.code.Code.{Code}
use Rattle.gq_fault.specs.Codes.{number_of}

-- no two codes have one number
abbrev pub NumbersTellCodes : Type 0
NumbersTellCodes = (a b : Code) → number_of a ≡ number_of b → a ≡ b
