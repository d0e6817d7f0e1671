-- The last that passes, looked for from the front.
use Rattle.std.proofs.Common.{◌≡◌, Option, Some, None, refl}
use Rattle.std.specs.Option.{option_or}

pub keeps_last : {A : Type 0} (r o : Option A) (x : A) → option_or (option_or r (Some x)) o ≡ option_or r (Some x)
keeps_last None o x = refl
keeps_last (Some y) o x = refl

pub keeps_rest : {A : Type 0} (r o : Option A) → option_or (option_or r None) o ≡ option_or r o
keeps_rest None o = refl
keeps_rest (Some y) o = refl
