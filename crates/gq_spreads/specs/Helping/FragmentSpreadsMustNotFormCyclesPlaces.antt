-- What is told of spreads that lead back to their fragments, in the order of fragments and texts, computed.
use Rattle.std.specs.Prelude.{◌≡◌, ◌↔◌, ℕ, ◌<◌, List, [], ◌∷◌, Option, if◌then◌else◌, Bool, false, flat_map, nat_eq, length, slice_index}
use Rattle.std.specs.Option.{option_map_or}
use Rattle.std.specs.declared.vec.Vec.{Vec}
use Rattle.std.specs.declared.alloc.Global.{Global}
use Rattle.gq_text.specs.declared.place.Span.{Span}
use Rattle.gq_tree.specs.Names.{spread_names}
use Rattle.gq_tree.specs.Plain.{NameOf}
use Rattle.gq_fault.specs.declared.code.Code.TheVariants.{FragmentCycle}
use Rattle.gq_fault.specs.declared.fault.Fault.{Fault}
use Rattle.gq_graph.specs.Reach.{row, LeadToEachOther}
use Rattle.gq_types.specs.Entries.{Text}
use Rattle.gq_document.specs.Definitions.{FragmentOf}
use Rattle.gq_fault.specs.FaultPlaces.{fault_at}
use Rattle.gq_spreads.specs.Helping.NameRows.{first_number}

-- two numbers are of one component exactly if each of them leads to the other
abbrev pub AreComponents : List (Vec ℕ Global) → List ℕ → Type 0
AreComponents rows components = (m n : ℕ) → m < length rows → n < length rows → (slice_index components m ≡ slice_index components n) ↔ LeadToEachOther (row rows) m n

-- whether there is a number, and it is of the component
abbrev pub is_of : List ℕ → ℕ → Option ℕ → Bool
is_of components component number = option_map_or (λ n. nat_eq (slice_index components n) component) number false

abbrev pub fragment_cycle : List Text → List ℕ → ℕ → ℕ → NameOf Span → List Fault
fragment_cycle ts components component file name =
    if is_of components component (first_number ts name.text) then fault_at file FragmentCycle name ∷ [] else []

abbrev pub cycles_among : List Text → List ℕ → ℕ → ℕ → List (NameOf Span) → List Fault
cycles_among ts components component file names = flat_map (fragment_cycle ts components component file) names

-- in a fragment whose name has that number
abbrev pub cycles_by : List Text → List ℕ → FragmentOf → Option ℕ → List Fault
cycles_by ts components f number = option_map_or (λ n. cycles_among ts components (slice_index components n) f.file (spread_names f.set)) number []

abbrev pub cycles_in : List Text → List ℕ → FragmentOf → List Fault
cycles_in ts components f = cycles_by ts components f (first_number ts f.name.text)

abbrev pub fragment_cycles : List Text → List ℕ → List FragmentOf → List Fault
fragment_cycles ts components fs = flat_map (cycles_in ts components) fs
