-- the numbers so far are those that the files have then, none of which has a mark
use Rattle.std.proofs.Common.{take}
use Rattle.gq_by_file.specs.Helping.Moved.{number_after}
use Rattle.gq_by_file.proofs.MovedLemmas.{AreAfter}
use Rattle.gq_by_file.proofs.moved.files_after.Given as goal

abbrev pub invariant-loop-file : goal.invariant-loop-file
invariant-loop-file l = AreAfter (number_after l.change) l.marks (take l.file-index l.files) l.after.items
