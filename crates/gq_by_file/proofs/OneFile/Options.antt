-- Options over functions that agree.
use Rattle.std.proofs.Common.{◌≡◌, Option, Some, None, refl}
use Rattle.std.specs.Prelude.{option_and_then}
use Rattle.std.specs.Option.{option_map_or}

pub and_then_same : {A B : Type 0} (f g : A → Option B) → ((n : A) → f n ≡ g n) → (o : Option A) → option_and_then f o ≡ option_and_then g o
and_then_same f g h None = refl
and_then_same f g h (Some n) = h n

pub map_or_same : {A B : Type 0} (f g : A → B) (d : B) → ((n : A) → f n ≡ g n) → (o : Option A) → option_map_or f o d ≡ option_map_or g o d
map_or_same f g d h None = refl
map_or_same f g d h (Some n) = h n
