-- none so far
use Rattle.std.proofs.Common.{take, map}
use Rattle.gq_tree.specs.Views.{def_view}
use Rattle.gq_kept.specs.Helping.Unindexed.{AddNothing}
use Rattle.gq_kept.proofs.indexed.one_is_executable.Given as goal

abbrev pub invariant-loop-definition : goal.invariant-loop-definition
invariant-loop-definition l = AddNothing (map def_view (take l.definition-index l.definitions))
