-- the names so far are put behind
use Rattle.std.proofs.Common.{◌≡◌, ◌++◌, drop}
use Rattle.gq_tree.specs.Names.{names_at}
use Rattle.gq_by_file.specs.Names.{texts_of}
use Rattle.gq_by_file.proofs.names.put_texts.Given as goal

abbrev pub invariant-loop-name : goal.invariant-loop-name
invariant-loop-name l = l.texts.items ++ texts_of (names_at (drop l.name-index l.names)) ≡ l.initial.texts.items ++ texts_of (names_at l.names)
