-- Where the variables of a definition are kept.
use Rattle.std.specs.Prelude.{ℕ, List, Option, None, map, slice_get}
use Rattle.std.specs.Arc.{arc_value}
use Rattle.std.specs.Option.{option_map, option_map_or}
use Rattle.gq_index.specs.declared.index.Seat.{Seat}
use Rattle.gq_index.specs.declared.index.Tables.{Tables}
use Rattle.gq_index.specs.declared.index.Variables.{Variables}
use Rattle.gq_index.specs.declared.parts.Parts.{Parts}

-- those of what is kept at a place of documents
abbrev pub variables_in : List Parts → Seat → Option Variables
variables_in kept seat = option_map_or (λ parts. option_map (λ part. part.variables) (slice_get parts.parts.items seat.offset)) (slice_get kept seat.file) None

-- those of the definition of a number
abbrev pub variables_at : Tables → ℕ → Option Variables
variables_at tables n = option_map_or (λ seat. variables_in (map arc_value tables.kept.items) seat) (slice_get tables.seats.items n) None
