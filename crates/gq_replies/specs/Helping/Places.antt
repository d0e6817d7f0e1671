-- Places of a text with their positions. Only contracts of private functions speak of it.
use Rattle.std.specs.Prelude.{◌≡◌, ℕ, List, map}
use Rattle.gq_text.specs.Place.{pos}
use Rattle.gq_text.specs.declared.place.PositionEncoding.{PositionEncoding}
use Rattle.gq_replies.specs.declared.places.Places.{Places}

-- the positions are those of the offsets in the text
abbrev pub AreOf : PositionEncoding → List ℕ → Places → Type 0
AreOf encoding text places = places.positions.items ≡ map (pos encoding text) places.offsets.items
