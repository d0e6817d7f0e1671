-- the files so far are marked
use Rattle.std.proofs.Common.{◌≡◌, length, take}
use Rattle.gq_by_file.specs.Helping.Marks.{AreMarked}
use Rattle.gq_by_file.proofs.marks.mark.Given as goal

abbrev pub invariant-loop-file : goal.invariant-loop-file
invariant-loop-file l = (length l.marks.items ≡ length l.initial.marks.items) × AreMarked (take l.file-index l.files) l.initial.marks.items l.marks.items
