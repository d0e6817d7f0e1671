-- Which names of fragments lead to which by spreads. A name has the number of the first fragment that has it.
use Rattle.std.specs.Prelude.{◌≡◌, ◌↔◌, ℕ, Bool, false, List, [], ◌∷◌, Option, Some, Contains, flat_map, length, nat_eq, slice_get, if◌then◌else◌}
use Rattle.std.specs.Option.{option_map_or}
use Rattle.std.specs.declared.vec.Vec.{Vec}
use Rattle.std.specs.declared.alloc.Global.{Global}
use Rattle.gq_text.specs.declared.place.Span.{Span}
use Rattle.gq_tree.specs.Names.{spread_names}
use Rattle.gq_tree.specs.Plain.{NameOf}
use Rattle.gq_graph.specs.Reach.{row}
use Rattle.gq_types.specs.Entries.{Text}
use Rattle.gq_document.specs.Definitions.{FragmentOf}
use Rattle.gq_spreads.specs.Spreads.{places_from}
use Rattle.gq_spreads.specs.Helping.Rows.{texts}

-- the number of a name in a list of names: its first place
abbrev pub first_number : List Text → Text → Option ℕ
first_number ts text = slice_get (places_from 0 text ts) 0

-- the numbers of names, of those that are in the list
abbrev pub first_numbers_of : List Text → NameOf Span → List ℕ
first_numbers_of ts name = option_map_or (λ n. n ∷ []) (first_number ts name.text) []

abbrev pub first_numbers : List Text → List (NameOf Span) → List ℕ
first_numbers ts names = flat_map (first_numbers_of ts) names

-- the numbers of the names that are spread in the fragment at a place
abbrev pub spreads_at : List Text → List FragmentOf → ℕ → List ℕ
spreads_at ts fs place = option_map_or (λ f. first_numbers ts (spread_names f.set)) (slice_get fs place) []

-- whether a place is the first of a name
abbrev pub is_first_at : List Text → ℕ → Text → Bool
is_first_at ts place text = option_map_or (λ n. nat_eq n place) (first_number ts text) false

-- the row of a place at which the name stands
abbrev pub name_row : List Text → List FragmentOf → ℕ → Text → List ℕ
name_row ts fs place text = if is_first_at ts place text then flat_map (spreads_at ts fs) (places_from 0 text ts) else []

abbrev pub row_at : List Text → List FragmentOf → ℕ × Text → List ℕ
row_at ts fs p = name_row ts fs p.0 p.1

-- a spread in a fragment, by the numbers of the fragment's name and of the name that is spread
pub record IsNameStep (fs : List FragmentOf) (m k : ℕ) : Type 0 where
  pub fragment : FragmentOf
  pub stands : Contains fs fragment
  pub from : first_number (texts fs) fragment.name.text ≡ Some m
  pub name : NameOf Span
  pub spread : Contains (spread_names fragment.set) name
  pub to : first_number (texts fs) name.text ≡ Some k

-- the rows of all names
pub record AreNameRows (fs : List FragmentOf) (rows : List (Vec ℕ Global)) : Type 0 where
  pub count : length rows ≡ length fs
  pub steps : (m k : ℕ) → Contains (row rows m) k ↔ IsNameStep fs m k
