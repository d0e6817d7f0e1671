-- Rows of occurrences. Only contracts of private functions speak of it.
use Rattle.std.specs.Prelude.{ℕ, List, [], ◌∷◌}
use Rattle.gq_index.specs.declared.occurrence.Occurrence.{Occurrence}

-- the number of the document of the first
abbrev pub first_file : List Occurrence → ℕ
first_file [] = 0
first_file (o ∷ os) = o.file
