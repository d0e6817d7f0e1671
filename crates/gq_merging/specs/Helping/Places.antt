-- Where entries stand, by their names, computed.
use Rattle.std.specs.Prelude.{◌≡◌, ℕ, ◌<◌, List, Some, Contains, length}
use Rattle.gq_text.specs.declared.place.Span.{Span}
use Rattle.gq_names.specs.Repeats.{StandsAt}
use Rattle.gq_names.specs.UnderNames.{items_under}
use Rattle.gq_tree.specs.Plain.{NameOf, Val}
use Rattle.gq_types.specs.Entries.{Text}
use Rattle.gq_merging.specs.declared.places.Places.{Places}
use Rattle.gq_merging.specs.declared.places.Places.TheVariants.{Few, Many}

-- an entry of that name stands at the place
pub record IsNamedAt (bs : List (Val Span)) (text : Text) (j : ℕ) : Type 0 where
  pub one : Val Span
  pub stands : StandsAt bs j one
  pub name : NameOf Span
  pub is : one.label.key ≡ Some name
  pub one_text : name.text ≡ text

-- for each name there are the places of all entries that have it, and no place at which no entry stands
pub record ArePlaced (bs : List (Val Span)) (places : Text → List ℕ) : Type 0 where
  pub within : (text : Text) (j : ℕ) → Contains (places text) j → j < length bs
  pub each : (text : Text) (j : ℕ) → IsNamedAt bs text j → Contains (places text) j

-- the places that are looked at for a name
abbrev pub places_for : Places → Text → List ℕ
places_for (Few all) text = all.items
places_for (Many by_name) text = items_under by_name text
