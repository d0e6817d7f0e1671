-- The last touched token, token after token.
use Rattle.std.proofs.Common.{◌≡◌, Option, Some, None, refl}
use Rattle.std.specs.Option.{option_map, option_or}

pub keeps_last_mapped : {A B : Type 0} (f : A → B) (r : Option A) (o : Option B) (x : A) → option_or (option_map f (option_or r (Some x))) o ≡ option_or (option_map f r) (Some (f x))
keeps_last_mapped f None o x = refl
keeps_last_mapped f (Some y) o x = refl

pub keeps_rest_mapped : {A B : Type 0} (f : A → B) (r : Option A) (o : Option B) → option_or (option_map f (option_or r None)) o ≡ option_or (option_map f r) o
keeps_rest_mapped f None o = refl
keeps_rest_mapped f (Some y) o = refl
