-- Parts, and where they are kept.
use Rattle.std.specs.Prelude.{◌≡◌, ℕ, List, Some, map, slice_get}
use Rattle.std.specs.Arc.{arc_value}
use Rattle.std.specs.Borrow.{Bor}
use Rattle.gq_index.specs.declared.files.File.{File}
use Rattle.gq_index.specs.declared.index.Seat.{Seat}
use Rattle.gq_index.specs.declared.parts.Parts.{Parts}
use Rattle.gq_index.specs.declared.placed.Placed.{Placed}

-- what is kept of each of these files
abbrev pub parts_of_files : List (Bor File) → List Parts
parts_of_files files = map (λ f. arc_value f.now.parts) files

abbrev pub seat_of : Placed → Seat
seat_of p = record { file = p.file; offset = p.offset }

-- the part is what is kept at its place
abbrev pub IsFound : List Parts → Placed → Type 0
IsFound kept p = (one : Parts) × (slice_get kept p.file ≡ Some one) × (slice_get one.parts.items p.offset ≡ Some p.part.now)

abbrev pub AreFound : List Parts → List Placed → Type 0
AreFound kept all = (n : ℕ) (p : Placed) → slice_get all n ≡ Some p → IsFound kept p
