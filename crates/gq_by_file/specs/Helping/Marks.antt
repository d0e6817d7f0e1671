-- Sets of files as marks.
use Rattle.std.specs.Prelude.{◌≡◌, ◌<◌, ◌||◌, ℕ, Bool, false, List, length, slice_index_or}
use Rattle.gq_by_file.specs.Closed.Closed.{is_among}

-- the files are marked, beside what was marked
abbrev pub AreMarked : List ℕ → List Bool → List Bool → Type 0
AreMarked files old new = (n : ℕ) → n < length old → slice_index_or new n false ≡ (slice_index_or old n false || is_among files n)
