-- Fields in groups by their response keys.
use Rattle.std.specs.Prelude.{◌≡◌, List, [], map, Vec}
use Rattle.gq_meaning.specs.Values.{Text}
use Rattle.gq_meaning.specs.Expand.{Asked}
use Rattle.gq_meaning.specs.Response.{of_key, keys_after}
use Rattle.gq_collect.specs.declared.collect.Taken.{Taken}
use Rattle.gq_collect.specs.Views.{asked_all}

-- the keys in order of first occurrence, and the fields of each
pub record AreGroups {Z : Type 0} (fields : List Asked) (keys : List Text) (groups : List (Vec Taken Z)) : Type 0 where
  pub keys_are : keys ≡ keys_after [] fields
  pub groups_are : map (λ g. asked_all g.items) groups ≡ map (λ k. of_key k fields) keys
