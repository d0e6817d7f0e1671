-- what is known stays of the files from this one on, and of those before it without a mark
use Rattle.gq_by_file.proofs.UnseenLemmas.{AreKept}
use Rattle.gq_by_file.proofs.own.keep_own.Given as goal

abbrev pub invariant-loop-file : goal.invariant-loop-file
invariant-loop-file l = AreKept l.marks l.initial.own.items l.file l.own.items
