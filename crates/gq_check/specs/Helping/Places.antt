-- Places of a text with their positions. Only contracts of private functions speak of it.
use Rattle.std.specs.Prelude.{◌≡◌, ℕ, List, map}
use Rattle.gq_text.specs.Place.{pos}
use Rattle.gq_text.specs.declared.place.PositionEncoding.TheVariants.{Utf8, Utf16}
use Rattle.gq_check.specs.declared.places.Places.{Places}

-- the positions are those of the offsets in the text
abbrev pub AreOf : List ℕ → Places → Type 0
AreOf text places = (places.in_units.items ≡ map (pos Utf16 text) places.offsets.items) × (places.in_bytes.items ≡ map (pos Utf8 text) places.offsets.items)
