use Rattle.std.proofs.Common.{drop}
use Rattle.gq_tree.specs.Views.{sels_view}
use Rattle.gq_variables.specs.Helping.UsesNothing.{UseNothing}
use Rattle.gq_variables.proofs.selections.+silent.Given as goal

-- those that were passed use nothing
abbrev pub invariant-use_nothing-loop-selection : goal.invariant-use_nothing-loop-selection
invariant-use_nothing-loop-selection l = UseNothing (sels_view (drop l.selection-index l.all)) → UseNothing (sels_view l.all)
