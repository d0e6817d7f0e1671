-- Which fragments each part spreads, by the numbers of the parts, computed.
use Rattle.std.specs.Prelude.{ℕ, ◌+◌, List, [], ◌++◌, ◌∷◌, map}
use Rattle.std.specs.List.{flat_map}
use Rattle.std.specs.Str.{bytes_eq}
use Rattle.gq_text.specs.declared.place.Span.{Span}
use Rattle.gq_names.specs.UnderNames.{one_if}
use Rattle.gq_tree.specs.Plain.{NameOf}
use Rattle.gq_types.specs.Entries.{Text}
use Rattle.gq_index.specs.Helping.PlacedParts.{PartAt}

-- the number, once for each of these names that has that text
abbrev pub numbers_under : ℕ → Text → List (NameOf Span) → List ℕ
numbers_under number text names = flat_map (λ n. one_if (bytes_eq text n.text) number) names

-- the numbers of the fragments of that name, where the first part has the given number
abbrev pub fragment_numbers : ℕ → List PartAt → Text → List ℕ
fragment_numbers k [] text = []
fragment_numbers k (p ∷ ps) text = numbers_under k text p.part.own_name ++ fragment_numbers (k + 1) ps text

-- those of the fragments that have one of these names
abbrev pub spread_numbers : (Text → List ℕ) → List (NameOf Span) → List ℕ
spread_numbers numbers names = flat_map (λ n. numbers n.text) names

abbrev pub rows_under : (Text → List ℕ) → List PartAt → List (List ℕ)
rows_under numbers ps = map (λ p. spread_numbers numbers p.part.spreads) ps

-- for each part the numbers of the fragments that it spreads
abbrev pub spread_rows : List PartAt → List (List ℕ)
spread_rows ps = rows_under (fragment_numbers 0 ps) ps
