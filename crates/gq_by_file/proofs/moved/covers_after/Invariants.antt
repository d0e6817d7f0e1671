-- the covers so far are such
use Rattle.gq_document.specs.Executable.{ExecutableOf}
use Rattle.gq_by_file.specs.Across.{AreCovers}
use Rattle.gq_by_file.specs.Helping.Moved.{GoOver, number_after}
use Rattle.gq_by_file.proofs.moved.covers_after.Given as goal

abbrev pub invariant-loop-cover : goal.invariant-loop-cover
invariant-loop-cover l = (x y : ExecutableOf) → GoOver (number_after l.change) l.marks x y → AreCovers x l.covers → AreCovers y l.after.items
