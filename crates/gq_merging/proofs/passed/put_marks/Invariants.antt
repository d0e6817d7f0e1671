use Rattle.std.proofs.Common.{take}
use Rattle.gq_merging.specs.Helping.StartTables.{SetsMarks}
use Rattle.gq_merging.proofs.passed.put_marks.Given as goal

abbrev pub invariant-loop-number : goal.invariant-loop-number
invariant-loop-number l = SetsMarks (take l.number-index l.numbers) l.mark l.initial.marks.items l.marks.items
