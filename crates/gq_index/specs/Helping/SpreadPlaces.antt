-- Where the names in spreads stand among the names of fragments.
use Rattle.std.specs.Prelude.{◌≡◌, ℕ, List, Some, get_or, map, position}
use Rattle.std.specs.List.{flat_map}
use Rattle.std.specs.Str.{bytes_eq}
use Rattle.gq_text.specs.declared.place.Span.{Span}
use Rattle.gq_tree.specs.Plain.{NameOf}
use Rattle.gq_types.specs.Entries.{Text}
use Rattle.gq_index.specs.declared.fragments.Fragments.{Fragments}
use Rattle.gq_index.specs.Helping.PlacedParts.{PartAt}
use Rattle.gq_index.specs.Helping.StandingParts.{parts_stand}
use Rattle.gq_index.specs.Standing.{named_view, nowhere, stands}

-- the names in the spreads of all parts, one part after the other
abbrev pub all_spreads : List PartAt → List (NameOf Span)
all_spreads ps = flat_map (λ p. p.part.spreads) ps

-- each of the names has its place
abbrev pub ArePlaces : List Text → List (NameOf Span) → List ℕ → Type 0
ArePlaces names ns places = map (λ n. position (bytes_eq n.text) names) ns ≡ map Some places

-- where names of fragments stand in these parts is there, and the places of the names in spreads are these
abbrev pub AreStanding : List PartAt → Fragments → List ℕ → Type 0
AreStanding ps all places = ((text : Text) → stands all text ≡ parts_stand 0 ps text) × ArePlaces all.names (all_spreads ps) places

-- what has a place keeps it
abbrev pub KeepPlaces : List Text → List Text → Type 0
KeepPlaces old new = (text : Text) (at : ℕ) → position (bytes_eq text) old ≡ Some at → position (bytes_eq text) new ≡ Some at

-- the numbers of the fragments of the name that has that place
abbrev pub numbers_at : Fragments → ℕ → List ℕ
numbers_at f at = (get_or (map named_view f.named.items) at nowhere).numbers
