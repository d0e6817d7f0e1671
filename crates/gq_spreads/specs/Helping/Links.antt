-- The numbers by which spreads lead to fragments, computed. A name that several fragments have has a number behind those of the fragments.
use Rattle.std.specs.Prelude.{ℕ, ◌+◌, Bool, List, [], ◌∷◌, flat_map, length, nat_eq, ◌&&◌, not, if◌then◌else◌}
use Rattle.std.specs.Option.{option_map_or}
use Rattle.gq_text.specs.declared.place.Span.{Span}
use Rattle.gq_tree.specs.Names.{spread_names}
use Rattle.gq_tree.specs.Plain.{NameOf, Sels}
use Rattle.gq_types.specs.Entries.{Text}
use Rattle.gq_document.specs.Definitions.{OperationOf, FragmentOf}
use Rattle.gq_spreads.specs.Spreads.{places_from}
use Rattle.gq_spreads.specs.Helping.NameRows.{first_number, is_first_at}

-- whether a name stands at one place of a list of names
abbrev pub is_single : List Text → Text → Bool
is_single ts text = nat_eq (length (places_from 0 text ts)) 1

-- the number by which a spread of that name leads to its fragments, of which the first has the given number
abbrev pub link : List Text → Text → ℕ → ℕ
link ts text first = if is_single ts text then first else length ts + first

abbrev pub links_of : List Text → NameOf Span → List ℕ
links_of ts name = option_map_or (λ n. link ts name.text n ∷ []) (first_number ts name.text) []

abbrev pub links : List Text → Sels Span → List ℕ
links ts set = flat_map (links_of ts) (spread_names set)

abbrev pub operation_links : List Text → OperationOf → List ℕ
operation_links ts o = links ts o.set

abbrev pub fragment_links : List Text → FragmentOf → List ℕ
fragment_links ts f = links ts f.set

-- the row of the name that stands at a place
abbrev pub group : List Text → ℕ → Text → List ℕ
group ts place text = if is_first_at ts place text && not (is_single ts text) then places_from 0 text ts else []

abbrev pub group_at : List Text → ℕ × Text → List ℕ
group_at ts p = group ts p.0 p.1
