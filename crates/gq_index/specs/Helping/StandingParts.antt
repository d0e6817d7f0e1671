-- Where names of fragments stand in parts, computed.
use Rattle.std.specs.Prelude.{ℕ, ◌+◌, Bool, List, [], ◌∷◌, ◌++◌, if◌then◌else◌}
use Rattle.std.specs.Str.{bytes_eq}
use Rattle.gq_text.specs.declared.place.Span.{Span}
use Rattle.gq_tree.specs.Plain.{NameOf}
use Rattle.gq_types.specs.Entries.{Text}
use Rattle.gq_index.specs.declared.fragments.Fragments.{Fragments}
use Rattle.gq_index.specs.declared.occurrence.Occurrence.{Occurrence}
use Rattle.gq_index.specs.Helping.PlacedParts.{PartAt}
use Rattle.gq_index.specs.Standing.{StandsOf, nowhere, stands}

-- at one definition, and in one spread
abbrev pub defined_at : Occurrence → ℕ → StandsOf
defined_at place number = record { definitions = place ∷ []; spreads = []; occurrences = place ∷ []; numbers = number ∷ [] }

abbrev pub spread_at : Occurrence → StandsOf
spread_at place = record { definitions = []; spreads = place ∷ []; occurrences = place ∷ []; numbers = [] }

-- the ones behind the others
abbrev pub both : StandsOf → StandsOf → StandsOf
both a b = record {
  definitions = a.definitions ++ b.definitions;
  spreads = a.spreads ++ b.spreads;
  occurrences = a.occurrences ++ b.occurrences;
  numbers = a.numbers ++ b.numbers;
}

abbrev pub if_so : Bool → StandsOf → StandsOf
if_so b s = if b then s else nowhere

-- the numbers of the fragments of a name
abbrev pub numbers_under_names : Fragments → Text → List ℕ
numbers_under_names f text = (stands f text).numbers

-- where a text stands among the names under which the definition of that number defines a fragment, and among those that it spreads
abbrev pub owns_stand : ℕ → ℕ → Text → List (NameOf Span) → StandsOf
owns_stand file number text [] = nowhere
owns_stand file number text (n ∷ ns) = both (if_so (bytes_eq text n.text) (defined_at (record { file = file; span = n.place }) number)) (owns_stand file number text ns)

abbrev pub spreads_stand : ℕ → Text → List (NameOf Span) → StandsOf
spreads_stand file text [] = nowhere
spreads_stand file text (n ∷ ns) = both (if_so (bytes_eq text n.text) (spread_at (record { file = file; span = n.place }))) (spreads_stand file text ns)

abbrev pub part_stands : ℕ → Text → PartAt → StandsOf
part_stands number text p = both (owns_stand p.file number text p.part.own_name) (spreads_stand p.file text p.part.spreads)

-- so in parts, of which the first has the given number
abbrev pub parts_stand : ℕ → List PartAt → Text → StandsOf
parts_stand number [] text = nowhere
parts_stand number (p ∷ ps) text = both (part_stands number text p) (parts_stand (number + 1) ps text)
