-- the files of the covers so far are marked
use Rattle.std.proofs.Common.{◌≡◌, ◌<◌, ℕ, false, slice_index_or, length, take}
use Rattle.std.specs.Prelude.{◌||◌}
use Rattle.std.specs.List.{list_any}
use Rattle.gq_by_file.specs.Closed.Closed.{is_among}
use Rattle.gq_by_file.proofs.covers.mark_covers.Given as goal

abbrev pub invariant-loop-cover : goal.invariant-loop-cover
invariant-loop-cover l =
    (length l.marks.items ≡ length l.initial.marks.items)
    × ((n : ℕ) → n < length l.initial.marks.items → slice_index_or l.marks.items n false ≡ (slice_index_or l.initial.marks.items n false || list_any (λ c. is_among c.files.items n) (take l.cover-index l.covers)))
