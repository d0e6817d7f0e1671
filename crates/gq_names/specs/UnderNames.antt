-- Items under names.
use Rattle.std.specs.Prelude.{ℕ, Bool, List, [], ◌∷◌, get_or, position, if◌then◌else◌}
use Rattle.std.specs.Option.{option_map_or}
use Rattle.std.specs.Str.{bytes_eq}

-- names, and a list of items for each
pub record UnderNames (T : Type 0) : Type 0 where
  pub names : List (List ℕ)
  pub lists : List (List T)

-- the items under a name, none where it is not there
abbrev pub items_under : {T : Type 0} → UnderNames T → List ℕ → List T
items_under u name = option_map_or (λ place. get_or u.lists place []) (position (bytes_eq name) u.names) []

abbrev pub one_if : {T : Type 0} → Bool → T → List T
one_if b x = if b then x ∷ [] else []
