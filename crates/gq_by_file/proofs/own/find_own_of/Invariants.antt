-- what is known of the files stays so
use Rattle.gq_by_file.specs.Own.{AreOwnOver}
use Rattle.gq_by_file.proofs.own.find_own_of.Given as goal

abbrev pub invariant-loop-file : goal.invariant-loop-file
invariant-loop-file l = AreOwnOver l.types l.readings l.initial.own.items → AreOwnOver l.types l.readings l.own.items
